-- What the limit of coordinates tells of points and of corners: they are within any bound that the limit is within.
use mathlib.Core.Path.{◌≡◌, sym, subst}
use mathlib.Core.Bool.{true, ◌&&◌}
use mathlib.Core.List.{List, [], ◌∷◌}
use Prim.Native.Nat.{ℕ, zero, suc, ◌+◌, ◌*◌, ◌/◌, ◌<◌}
use native.Mathlib.Omega.{arith}
use lib.Dec.{T}
use lib.ListN.{length, get_or}
use lib.Ieee.{Float, nan}
use Rattle.vector.specs.declared.Vector.{Vector}
use Rattle.vector.proofs.Zeros.{Within, under}
use Rattle.path.specs.Strokes.{point_at}
use Rattle.path.specs.Tests.{most_coordinate, within_of, all_within, coordinate_good, coordinates_good}
use Rattle.path.proofs.Tests.{both}
use Rattle.mesh.specs.Meshes.{corner_at, reach_of, vector_good}
use Rattle.mesh.proofs.Tests.{vertex_there}

-- the three coordinates of a point
pub all_within_lem : {c : ℕ} → Within c most_coordinate → (v : Vector) → vector_good v ≡ true → Within c v.x × Within c v.y × Within c v.z
unfolding vector_good
all_within_lem {c} limit v h =
    let a = both (coordinate_good v.x && coordinate_good v.y) (coordinate_good v.z) h in
    let b = both (coordinate_good v.x) (coordinate_good v.y) a.0 in
    (good v.x b.0, good v.y b.1, good v.z a.1)
  where
    good : (x : Float) → coordinate_good x ≡ true → Within c x
    good x h = under x limit (subst T (sym h) tt)

within-at : (b : Float) (xs : List Float) (k : ℕ) → all_within b xs ≡ true → k < length xs → within_of b (get_or xs k nan) ≡ true
within-at b [] k h l = absurd (omega arith)
within-at b (x ∷ xs) zero h l = (both (within_of b x) (all_within b xs) h).0
within-at b (x ∷ xs) (suc k) h l = within-at b xs k (both (within_of b x) (all_within b xs) h).1 (omega arith)

point_good : (vs : List Float) (i : ℕ) → coordinates_good vs ≡ true → i < length vs / 3 → vector_good (point_at vs i) ≡ true
unfolding coordinates_good vector_good point_at
point_good vs i h l =
    rw (within-at most_coordinate vs (i * 3) h (omega arith), within-at most_coordinate vs (i * 3 + 1) h (omega arith), within-at most_coordinate vs (i * 3 + 2) h (omega arith))

-- a corner of the first n faces, which are there
pub corner_good_lem : (vs : List Float) (is : List ℕ) (n k : ℕ) → coordinates_good vs ≡ true → reach_of (length vs / 3) is n ≡ true → k < n * 3 → vector_good (corner_at vs is k) ≡ true
corner_good_lem vs is n k g h l = point_good vs (get_or is k 0) g (vertex_there (length vs / 3) is n k h l)
