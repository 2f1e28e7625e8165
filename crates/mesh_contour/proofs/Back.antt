-- Points that lie in a list are read back, and so are segments of two points each.
use mathlib.Core.Path.{◌≡◌, refl, sym, ap, ◌∙◌}
use mathlib.Core.List.{List, [], ◌∷◌, ◌++◌}
use Prim.Native.Nat.{ℕ, zero, suc, ◌+◌, ◌*◌, ◌≤◌}
use native.Mathlib.Omega.{arith}
use lib.ListN.{length, get_or, drop}
use lib.Ieee.{Float, nan}
use Rattle.vector.specs.declared.Vector.{Vector}
use Rattle.path.specs.Strokes.{gather, point_at}
use Rattle.path.specs.Laid.{over, joined, flat}
use Rattle.path.specs.InnerPushes.{put_points}
use Rattle.path.proofs.Points.{points_lie}
use Rattle.path_segments.specs.Join.{segments_in}
use Rattle.mesh_contour.proofs.Segments.{Pairs, no_more, more}

-- a point before the others moves each by one place
module _ (v : Vector) (l : List Float) where
  abbrev with_it : List Float
  with_it = v.x ∷ v.y ∷ v.z ∷ l

  point_past : (a : ℕ) → point_at with_it (a + 1) ≡ point_at l a
  unfolding point_at
  point_past a =
      let i : (a + 1) * 3 ≡ suc (suc (suc (a * 3))) = omega arith in
      let j : (a + 1) * 3 + 1 ≡ suc (suc (suc (a * 3 + 1))) = omega arith in
      let k : (a + 1) * 3 + 2 ≡ suc (suc (suc (a * 3 + 2))) = omega arith in
      let x : get_or with_it ((a + 1) * 3) nan ≡ get_or l (a * 3) nan = ap (λ (m : ℕ). get_or with_it m nan) i in
      let y : get_or with_it ((a + 1) * 3 + 1) nan ≡ get_or l (a * 3 + 1) nan = ap (λ (m : ℕ). get_or with_it m nan) j in
      let z : get_or with_it ((a + 1) * 3 + 2) nan ≡ get_or l (a * 3 + 2) nan = ap (λ (m : ℕ). get_or with_it m nan) k in
      rw (x, y, z)

  gather-past : (a n : ℕ) → gather (point_at with_it) (a + 1) n ≡ gather (point_at l) a n
  unfolding gather
  gather-past a zero = refl
  gather-past a (suc n) = rw (point_past a, gather-past (a + 1) n)

pub points_again : (vs : List Vector) (rest : List Float) → gather (point_at (flat vs ++ rest)) 0 (length vs) ≡ vs
unfolding gather point_at flat
points_again [] rest = refl
points_again (v ∷ vs) rest = ap (λ (l : List Vector). v ∷ l) (gather-past v (flat vs ++ rest) 0 (length vs) ∙ points_again vs rest)

-- two points each
count-pairs : {ss : List (List Vector)} → Pairs ss → length (joined ss) ≡ 2 * length ss
unfolding joined
count-pairs no_more = refl
count-pairs (more p q r) = omega (arith, count-pairs r)

pairs_again : (at : ℕ → Vector) {ss : List (List Vector)} → Pairs ss → (a : ℕ) → gather at (2 * a) (2 * length ss) ≡ joined ss
    → gather (λ (i : ℕ). at (2 * i) ∷ at (2 * i + 1) ∷ []) a (length ss) ≡ ss
unfolding gather joined
pairs_again at no_more a e = refl
pairs_again at (more p q {ss} r) a e =
    let n : 2 * suc (length ss) ≡ suc (suc (2 * length ss)) = omega arith in
    let m : 2 * a + 1 + 1 ≡ 2 * (a + 1) = omega arith in
    let f : at (2 * a) ∷ at (2 * a + 1) ∷ gather at (2 * a + 1 + 1) (2 * length ss) ≡ p ∷ q ∷ joined ss = rw n at e in
    let x : at (2 * a) ≡ p = cc in
    let y : at (2 * a + 1) ≡ q = cc in
    let z : gather at (2 * a + 1 + 1) (2 * length ss) ≡ joined ss = cc in
    rw (x, y, pairs_again at r (a + 1) (rw m at z))

-- segments that were put are those that are read
pub read_back : {ss : List (List Vector)} → Pairs ss → (l : List Float) → 6 * length ss ≤ length l → segments_in (put_points l 0 (joined ss)) (length ss) ≡ ss
unfolding segments_in over
read_back {ss} r l h =
    let n = count-pairs r in
    let ps = flat (joined ss) ++ drop (length (flat (joined ss))) l in
    let e : put_points l 0 (joined ss) ≡ ps = points_lie.fore l (joined ss) (omega arith) in
    let g : gather (point_at ps) 0 (2 * length ss) ≡ joined ss = ap (gather (point_at ps) 0) (sym n) ∙ points_again (joined ss) (drop (length (flat (joined ss))) l) in
    rw e (pairs_again (point_at ps) r 0 g)
