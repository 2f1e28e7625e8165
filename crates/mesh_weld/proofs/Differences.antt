-- A difference of 0.000001 or more parts two points, whatever the other two are: no square has a sign, and what is added to is not above the sum.
use mathlib.Core.Path.{◌≡◌, refl, sym, subst}
use mathlib.Core.Bool.{Bool, true, false, not, cond, ◌||◌}
use Prim.Native.Nat.{ℕ, zero, suc, ◌+◌, ◌*◌, ◌^◌, ◌≤◌, ◌<◌}
use native.Mathlib.Nat.{mul-pos, mul_assoc, mul_comm, mul_right_comm, mul-le-mul_right, add_comm, lt_of_lt_of_le}
use native.Mathlib.Omega.{arith}
use lib.Dec.{T, ltb, nltb→le, lt→ltb}
use lib.Pow.{pow_pos}
use lib.IntN.{ℤ, negsuc}
use lib.Ieee.{Float, nan, inf, fin, up, down, binary64, of_fields, of_bits, span, climb, size, odd, units, round, neg, sum, add, mul, lt, le}
use lib.Ieee.Bits.{is_false}
use lib.Ieee.Fits.{down_pos, round_is}
use lib.Ieee.Order.{round_mono}
use lib.Ieee.Positive.{positive, first_pos, cross→le, above_of_le, mul_mono}
use Rattle.vector.specs.declared.Vector.{Vector}
use Rattle.vector.specs.Vectors.{sub_of, length_squared_of}
use Rattle.vector.proofs.RootLaws.{never_above}
use Rattle.vector.proofs.Shares.{le_not_lt}
use Rattle.mesh_weld.specs.Weld.{side, near}
use Rattle.mesh_weld.specs.InnerTable.{apart_of}
use Rattle.mesh_weld.proofs.Equals.{side-is}

abbrev pub square : Float → Float
square x = mul binary64 x x

-- ---- the numbers: 0.000001, and its square as an f64
abbrev small : Float
small = fin false 4722366482869645 (negsuc 71)

abbrev pub limit : Float
limit = fin false 4951760157141521 (negsuc 91)

pub limit_is : mul binary64 side side ≡ limit
unfolding of_bits of_fields odd mul round size span climb units
limit_is = refl

limit_kept : round binary64 false 4951760157141521 (2 ^ 92) ≡ limit
unfolding round size span climb units odd
limit_kept = refl

-- ---- numbers that have no sign: squares and their sums
abbrev plain : Float → Bool
plain nan = true
plain (inf s) = not s
plain (fin s m e) = not s

plain-units : (q k : ℕ) → T (plain (units binary64 false q k))
unfolding units
plain-units q k = go (ltb (q * 2 ^ k) (2 ^ 2098)) q
  where
    go : (t : Bool) (q : ℕ) → T (plain (cond t (odd 54 false q k 1074) (inf false)))
    go true zero = unfold odd in tt
    go true (suc q) = unfold odd in tt
    go false q = tt

plain-round : (a b : ℕ) → T (plain (round binary64 false a b))
plain-round a b = subst (λ (x : Float). T (plain x)) (sym (round_is binary64 false a b)) (plain-units _ _)

plain-square : (d : Float) → T (plain (square d))
unfolding mul
plain-square nan = tt
plain-square (inf true) = tt
plain-square (inf false) = tt
plain-square (fin true m e) = plain-round (m * up e * (m * up e)) (down e * down e)
plain-square (fin false m e) = plain-round (m * up e * (m * up e)) (down e * down e)

plain-sum : (x y : Float) → T (plain x) → T (plain y) → T (plain (add binary64 x y))
unfolding add sum
plain-sum nan y p q = tt
plain-sum (inf true) y p q = absurd p
plain-sum (inf false) nan p q = tt
plain-sum (inf false) (inf true) p q = absurd q
plain-sum (inf false) (inf false) p q = tt
plain-sum (inf false) (fin t n d) p q = tt
plain-sum (fin true m e) y p q = absurd p
plain-sum (fin false m e) nan p q = tt
plain-sum (fin false m e) (inf true) p q = absurd q
plain-sum (fin false m e) (inf false) p q = tt
plain-sum (fin false m e) (fin true n d) p q = absurd q
plain-sum (fin false m e) (fin false n d) p q = plain-round (m * up e * down d + n * up d * down e) (down e * down d)

-- ---- adding to what is not below the limit
reached : (a c : ℕ) → 0 < c → 4951760157141521 * c ≤ a * 2 ^ 92 → lt (round binary64 false a c) limit ≡ false
reached a c h l =
    is_false (lt (round binary64 false a c) limit)
    (le_not_lt limit (round binary64 false a c)
    (subst (λ (x : Float). T (le x (round binary64 false a c))) limit_kept (round_mono binary64 4951760157141521 (2 ^ 92) a c (pow_pos 92) h l)))

reaches : (m : ℕ) (e : ℤ) → lt (fin false m e) limit ≡ false → 4951760157141521 * down e ≤ m * up e * 2 ^ 92
unfolding lt
reaches m e h = nltb→le (m * up e * 2 ^ 92) (4951760157141521 * 1 * down e) (subst (λ (b : Bool). T (not b)) (sym h) tt)

grown : (x y c d : ℕ) → 4951760157141521 * c ≤ x * 2 ^ 92 → 4951760157141521 * (c * d) ≤ (x * d + y * c) * 2 ^ 92
grown x y c d h = omega (arith, mul-le-mul_right d h, mul_assoc 4951760157141521 c d, mul_right_comm x (2 ^ 92) d)

more : (x y : Float) → T (plain x) → T (plain y) → lt x limit ≡ false → lt (add binary64 x y) limit ≡ false
unfolding add sum
more nan y p q h = unfold lt in refl
more (inf true) y p q h = absurd p
more (inf false) nan p q h = unfold lt in refl
more (inf false) (inf true) p q h = absurd q
more (inf false) (inf false) p q h = never_above limit
more (inf false) (fin t n d) p q h = never_above limit
more (fin true m e) y p q h = absurd p
more (fin false m e) nan p q h = unfold lt in refl
more (fin false m e) (inf true) p q h = absurd q
more (fin false m e) (inf false) p q h = never_above limit
more (fin false m e) (fin true n d) p q h = absurd q
more (fin false m e) (fin false n d) p q h =
    reached (m * up e * down d + n * up d * down e) (down e * down d) (mul-pos (down_pos e) (down_pos d)) (grown (m * up e) (n * up d) (down e) (down d) (reaches m e h))

-- the order of a sum does not matter
swapped : (x y : Float) → T (plain x) → T (plain y) → add binary64 x y ≡ add binary64 y x
unfolding add sum
swapped nan nan p q = refl
swapped nan (inf t) p q = refl
swapped nan (fin t n d) p q = refl
swapped (inf s) nan p q = refl
swapped (inf true) (inf t) p q = absurd p
swapped (inf false) (inf true) p q = absurd q
swapped (inf false) (inf false) p q = refl
swapped (inf s) (fin t n d) p q = refl
swapped (fin s m e) nan p q = refl
swapped (fin s m e) (inf t) p q = refl
swapped (fin true m e) (fin t n d) p q = absurd p
swapped (fin false m e) (fin true n d) p q = absurd q
swapped (fin false m e) (fin false n d) p q =
    rw (add_comm (m * up e * down d) (n * up d * down e), mul_comm (down e) (down d))

-- ---- the square of a difference that parts
turned : (m : ℕ) (e : ℤ) → T (le (fin true m e) (neg small)) → T (positive (fin false m e)) × T (le small (fin false m e))
turned m e h =
    let l : 4722366482869645 * down e ≤ m * up e * 2 ^ 72 = nltb→le (m * up e * 2 ^ 72) (4722366482869645 * 1 * down e) (unfold neg lt in le_not_lt (fin true m e) (neg small) h) in
    let p : 0 < m = first_pos m (up e) (first_pos (m * up e) (2 ^ 72) (lt_of_lt_of_le (mul-pos (omega arith) (down_pos e)) l)) in
    (lt→ltb 0 m p, cross→le small (fin false m e) tt (lt→ltb 0 m p) l)

-- a number without a sign is not below -0.000001, one with a sign not above 0.000001
wrong_side : (m : ℕ) (e : ℤ) → T (not (ltb 0 (m * up e * 2 ^ 72 + 4722366482869645 * 1 * down e))) → ⊥
wrong_side m e h = omega (arith, nltb→le 0 (m * up e * 2 ^ 72 + 4722366482869645 * 1 * down e) h, down_pos e)

large : (x : Float) → T (positive x) → T (le small x) → lt (square x) limit ≡ false
large x p l =
    is_false (lt (square x) limit)
    (le_not_lt limit (square x)
    (subst (λ (z : Float). T (le z (square x))) (subst (λ (s : Float). mul binary64 s s ≡ limit) side-is limit_is) (mul_mono binary64 small x small x tt p tt p l l)))

parted_up : (d : Float) → T (le small d) → lt (square d) limit ≡ false
parted_up nan h = absurd (unfold le in h)
parted_up (inf true) h = unfold mul in never_above limit
parted_up (inf false) h = unfold mul in never_above limit
parted_up (fin true m e) h =
    absurd (wrong_side m e (unfold lt in le_not_lt small (fin true m e) h))
parted_up (fin false m e) h = large (fin false m e) (above_of_le small (fin false m e) tt h) h

parted_down : (d : Float) → T (le d (neg small)) → lt (square d) limit ≡ false
parted_down nan h = absurd (unfold le in h)
parted_down (inf true) h = unfold mul in never_above limit
parted_down (inf false) h = unfold mul in never_above limit
parted_down (fin true m e) h = let t = turned m e h in unfold mul in large (fin false m e) t.0 t.1
parted_down (fin false m e) h =
    absurd (wrong_side m e (subst (λ (n : ℕ). T (not (ltb 0 n))) (add_comm (4722366482869645 * 1 * down e) (m * up e * 2 ^ 72)) (unfold neg lt in le_not_lt (fin false m e) (neg small) h)))

parted : (d : Float) → apart_of d ≡ true → lt (square d) limit ≡ false
unfolding apart_of
parted d h = go (le small d) refl (subst (λ (x : Float). (le x d || le d (neg x)) ≡ true) side-is h)
  where
    go : (t : Bool) → le small d ≡ t → (t || le d (neg small)) ≡ true → lt (square d) limit ≡ false
    go true u g = parted_up d (subst T (sym u) tt)
    go false u g = parted_down d (subst T (sym g) tt)

-- ---- the two tests of a difference
pub up_parts : (d : Float) → le side d ≡ true → true ≡ apart_of d
unfolding apart_of
up_parts d h = rw h

pub down-parts : (d : Float) → le side d ≡ false → le d (neg side) ≡ apart_of d
unfolding apart_of
down-parts d h = rw h

-- ---- one of three squares decides
module _ (a b c : Float) where
  abbrev both : Float
  both = add binary64 (square a) (square b)

  plain-both : T (plain both)
  plain-both = plain-sum (square a) (square b) (plain-square a) (plain-square b)

  first : lt (square a) limit ≡ false → lt (add binary64 both (square c)) limit ≡ false
  first h = more both (square c) plain-both (plain-square c) (more (square a) (square b) (plain-square a) (plain-square b) h)

  second : lt (square b) limit ≡ false → lt (add binary64 both (square c)) limit ≡ false
  second h =
      more both (square c) plain-both (plain-square c)
      (rw (swapped (square a) (square b) (plain-square a) (plain-square b)) (more (square b) (square a) (plain-square b) (plain-square a) h))

  third : lt (square c) limit ≡ false → lt (add binary64 both (square c)) limit ≡ false
  third h = rw (swapped both (square c) plain-both (plain-square c)) (more (square c) both (plain-square c) plain-both h)

module _ (p v d : Vector) (e : d ≡ sub_of p v) where
  by : lt (length_squared_of d) limit ≡ false → false ≡ near p v
  unfolding near
  by h =
      sym
      (subst (λ (m : Float). lt (length_squared_of (sub_of p v)) m ≡ false) (sym limit_is)
      (subst (λ (x : Vector). lt (length_squared_of x) limit ≡ false) e h))

  pub x_parts : apart_of d.x ≡ true → false ≡ near p v
  x_parts h = by (first d.x d.y d.z (parted d.x h))

  pub y_parts : apart_of d.y ≡ true → false ≡ near p v
  y_parts h = by (second d.x d.y d.z (parted d.y h))

  pub z_parts : apart_of d.z ≡ true → false ≡ near p v
  z_parts h = by (third d.x d.y d.z (parted d.z h))
