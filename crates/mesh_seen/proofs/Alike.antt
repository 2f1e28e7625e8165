-- A face with two corners that compare equal is flat: one of its two sides is all zeros, or the two are alike.
use mathlib.Core.Path.{◌≡◌, refl}
use mathlib.Core.Bool.{Bool, true, false, ◌&&◌, ◌||◌}
use mathlib.Core.Logic.{◌⊎◌, inl, inr, ⊎_elim}
use mathlib.Core.List.{List}
use Prim.Native.Nat.{ℕ, ◌+◌, ◌*◌, ◌/◌, ◌<◌}
use native.Mathlib.Omega.{arith}
use lib.Dec.{lit≤}
use lib.ListN.{length}
use lib.Ieee.{Float, binary64, of_bits, sub, mul, eq}
use Rattle.vector.specs.declared.Vector.{Vector}
use Rattle.vector.specs.Vectors.{equal_of}
use Rattle.vector.proofs.Zeros.{Within, within, sub_within, mul-within, none, zero_length, level_sub, Like, like_sub, large, wide, wide_kept, like_cross}
use Rattle.path.specs.Tests.{most_coordinate, coordinates_good}
use Rattle.path.proofs.Tests.{both}
use Rattle.mesh.specs.declared.Triangle.{Triangle}
use Rattle.mesh.specs.Meshes.{corner_at, face_at, reach_of, vector_good}
use Rattle.mesh.proofs.Limits.{all_within_lem, corner_good_lem}
use Rattle.mesh_seen.specs.Normals.{across_of, flat_of, alike_of}

-- ---- coordinates within the limit: any limit up to 2^500 would do
limit : Within large most_coordinate
unfolding of_bits
limit = within _ _ _ (lit≤ tt)

all_equal : (p v : Vector) → equal_of p v ≡ true → (eq p.x v.x ≡ true) × (eq p.y v.y ≡ true) × (eq p.z v.z ≡ true)
unfolding equal_of
all_equal p v h =
    let a = both (eq p.x v.x) (eq p.y v.y && eq p.z v.z) h in
    let b = both (eq p.y v.y) (eq p.z v.z) a.1 in
    (a.0, b.0, b.1)

-- an axis, and what it reads of points that are within the limit, and of two that compare equal
record Axis : Type 0 where
  read : Vector → Float
  good : (v : Vector) → vector_good v ≡ true → Within large (read v)
  equal : (p v : Vector) → equal_of p v ≡ true → eq (read p) (read v) ≡ true

x_axis : Axis
x_axis = record { read = λ v. v.x; good = λ v h. (all_within_lem limit v h).0; equal = λ p v h. (all_equal p v h).0 }

y_axis : Axis
y_axis = record { read = λ v. v.y; good = λ v h. (all_within_lem limit v h).1; equal = λ p v h. (all_equal p v h).1 }

z_axis : Axis
z_axis = record { read = λ v. v.z; good = λ v h. (all_within_lem limit v h).2; equal = λ p v h. (all_equal p v h).2 }

-- ---- a side of a face, from p to v
abbrev side : Vector → Vector → Axis → Float
side p v i = sub binary64 (i.read v) (i.read p)

module _ (p v : Vector) (g : vector_good p ≡ true) (h : vector_good v ≡ true) where
  side-within : (i : Axis) → Within wide (side p v i)
  side-within i = sub_within wide_kept (i.good v h) (i.good p g)

  side-zero : equal_of p v ≡ true → (i : Axis) → Within 0 (side p v i)
  side-zero e i = level_sub (i.good p g) (i.good v h) (i.equal p v e)

either : (a b : Bool) → (a || b) ≡ true → (a ≡ true) ⊎ (b ≡ true)
either true b h = inl refl
either false b h = inr h

-- ---- the sides from the first corner to the second and to the third
module _ (t : Triangle) (g₁ : vector_good t.v1 ≡ true) (g₂ : vector_good t.v2 ≡ true) (g₃ : vector_good t.v3 ≡ true) where
  abbrev u : Axis → Float
  u = side t.v1 t.v2

  abbrev w : Axis → Float
  w = side t.v1 t.v3

  u_within : (i : Axis) → Within wide (u i)
  u_within = side-within t.v1 t.v2 g₁ g₂

  w_within : (i : Axis) → Within wide (w i)
  w_within = side-within t.v1 t.v3 g₁ g₃

  -- every coordinate of their cross product is a zero
  by_axes : ((i j : Axis) → Within 0 (sub binary64 (mul binary64 (u i) (w j)) (mul binary64 (u j) (w i)))) → flat_of t ≡ true
  unfolding flat_of x_axis y_axis z_axis
  by_axes f = zero_length (across_of t) (f y_axis z_axis) (f z_axis x_axis) (f x_axis y_axis)

  first-second : equal_of t.v1 t.v2 ≡ true → flat_of t ≡ true
  first-second e =
      let z = side-zero t.v1 t.v2 g₁ g₂ e in
      by_axes (λ i j. sub_within none (mul-within none (z i) (w_within j)) (mul-within none (z j) (w_within i)))

  first-third : equal_of t.v1 t.v3 ≡ true → flat_of t ≡ true
  first-third e =
      let z = side-zero t.v1 t.v3 g₁ g₃ e in
      by_axes (λ i j. sub_within none (mul-within none (u_within i) (z j)) (mul-within none (u_within j) (z i)))

  second_third : equal_of t.v2 t.v3 ≡ true → flat_of t ≡ true
  second_third e =
      let l : (i : Axis) → Like (u i) (w i) = λ i. like_sub (i.good t.v2 g₂) (i.good t.v3 g₃) (i.good t.v1 g₁) (i.equal t.v2 t.v3 e) in
      by_axes (λ i j. like_cross (u_within i) (u_within j) (w_within i) (w_within j) (l i) (l j))

-- two corners that compare equal have a cross product of computed length 0, where coordinates are within the limit
pub alike-flat : (t : Triangle) → vector_good t.v1 ≡ true → vector_good t.v2 ≡ true → vector_good t.v3 ≡ true → alike_of t ≡ true → flat_of t ≡ true
unfolding alike_of
alike-flat t g₁ g₂ g₃ h =
    ⊎_elim (first-second t g₁ g₂ g₃)
    (λ o. ⊎_elim (first-third t g₁ g₂ g₃) (second_third t g₁ g₂ g₃) (either (equal_of t.v1 t.v3) (equal_of t.v2 t.v3) o))
    (either (equal_of t.v1 t.v2) (equal_of t.v1 t.v3 || equal_of t.v2 t.v3) h)

-- ---- a face of a mesh
-- the same of a face of a mesh whose coordinates are within the limit, where the corners of its first n faces are there
pub alike-face : (vs : List Float) (is : List ℕ) (n f : ℕ) → coordinates_good vs ≡ true → reach_of (length vs / 3) is n ≡ true → f < n → alike_of (face_at vs is f) ≡ true → flat_of (face_at vs is f) ≡ true
alike-face vs is n f g h l =
    alike-flat (face_at vs is f) (corner (f * 3) (omega arith)) (corner (f * 3 + 1) (omega arith)) (corner (f * 3 + 2) (omega arith))
  where
    corner : (k : ℕ) → k < n * 3 → vector_good (corner_at vs is k) ≡ true
    corner k m = corner_good_lem vs is n k g h m
