-- Whether a coordinate is within its bound, told by its pattern without the sign's bit: one comparison of whole numbers.
use mathlib.Core.Path.{◌≡◌, refl, sym, ap, ◌∙◌, subst}
use mathlib.Core.Logic.{◌⊎◌, inl, inr, ⊎_elim}
use mathlib.Core.Bool.{Bool, true, false, ◌&&◌, ◌||◌}
use mathlib.Core.List.{List}
use Prim.Native.Nat.{ℕ, zero, suc, ◌+◌, ◌*◌, ◌/◌, ◌%◌, ◌^◌, ◌≤◌, ◌<◌}
use native.Mathlib.Nat.{le_trans, le_of_eq, le_of_lt, lt_of_lt_of_le, lt_of_le_of_lt, eq-or-lt_of_le, lt_of_mul-lt-mul_right, mul-lt-mul_of_pos_right, mul-le-mul_left, mul-le-mul_right, mul_right_comm, mul-one}
use native.Mathlib.Omega.{arith}
use lib.ListN.{length}
use lib.Dec.{leb, ltb, eqb, eqb→eq, le→leb, not_T, lit≤, lit<}
use lib.Arith.{le→nltb, lt→nleb}
use lib.IntN.{pos}
use lib.Pow.{pow_pos, pow_mono, shl_lt}
use lib.Ieee.{Float, nan, inf, fin, up, down, lt, eq, le, of_bits}
use lib.Ieee.Bits.{is_true, is_false}
use lib.Ieee.Exact.{HasValue}
use lib.Ieee.Fits.{down_pos}
use lib.Ieee.Order.{le_of_values}
use Rattle.byte_words.specs.Bytes.{word_from}
use Rattle.vector.specs.declared.Vector.{Vector}
use Rattle.vector.specs.Abs.{abs_of}
use Rattle.vector.proofs.Roots.{lt-or_ge}
use Rattle.path.specs.Tests.{most_coordinate, coordinate_good}
use Rattle.single.specs.Singles.{value_of, units_at}
use Rattle.single.proofs.Patterns.{nan_read, pattern_value, pattern_value_negated}
use Rattle.stl.specs.Files.{faces_from, face_bytes, point_bytes, place_of, coordinate_in, corner_good}
use Rattle.stl.proofs.Corners.{place}
use Rattle.stl.proofs.Ends.{corner_past}

-- ---- in units of 2 ^ -149 the bound is 2 ^ 169, which the field 147 without digits stands for
few : (x t : ℕ) → t < 2 ^ 23 → x * 2 ^ 23 + t ≤ 147 * 2 ^ 23 → units_at x t ≤ 2 ^ 169
few zero t h l = le_trans (le_of_lt h) (pow_mono {i = 23} {j = 169} (lit≤ tt))
few (suc x) t h l =
    ⊎_elim (λ g. le_of_lt (lt_of_lt_of_le (shl_lt 24 x (omega arith)) (pow_mono {i = 24 + x} {j = 169} (omega arith)))) (λ g. level g) (lt-or_ge x 146)
  where
    level : 146 ≤ x → (2 ^ 23 + t) * 2 ^ x ≤ 2 ^ 169
    level g = let e : x ≡ 146 = omega arith in let z : t ≡ 0 = omega arith in rw (e, z) (lit≤ tt)

many : (x t : ℕ) → t < 2 ^ 23 → 147 * 2 ^ 23 < x * 2 ^ 23 + t → 2 ^ 169 < units_at x t
many zero t h l = absurd (omega arith)
many (suc x) t h l = ⊎_elim (λ g. level g) (λ g. higher g) (lt-or_ge x 147)
  where
    level : x < 147 → 2 ^ 169 < (2 ^ 23 + t) * 2 ^ x
    level g = let e : x ≡ 146 = omega arith in let d : 2 ^ 23 < 2 ^ 23 + t = omega arith in rw e (lt_of_le_of_lt (lit≤ tt) (mul-lt-mul_of_pos_right d (pow_pos 146)))

    higher : 147 ≤ x → 2 ^ 169 < (2 ^ 23 + t) * 2 ^ x
    higher g =
        let d : 2 ^ 23 ≤ 2 ^ 23 + t = omega arith in
        let a : 2 ^ 169 < 2 ^ 23 * 2 ^ 147 = lit< tt in
        lt_of_lt_of_le a (le_trans (mul-le-mul_left (2 ^ 23) (pow_mono {i = 147} {j = x} g)) (mul-le-mul_right (2 ^ x) d))

bound_value : HasValue most_coordinate false (2 ^ 169) (2 ^ 149)
unfolding of_bits
bound_value = (refl, refl)

bound_is : most_coordinate ≡ fin false 1 (pos 20)
unfolding of_bits
bound_is = refl

-- ---- a finite number by its units
inside : (x : Float) (s : Bool) (u : ℕ) → HasValue x s u (2 ^ 149) → u ≤ 2 ^ 169 → coordinate_good x ≡ true
unfolding abs_of
inside nan s u v h = absurd v
inside (inf t) s u v h = absurd v
inside (fin t m e) s u v h =
    is_true (le (fin false m e) most_coordinate)
    (le_of_values (fin false m e) most_coordinate u (2 ^ 149) (2 ^ 169) (2 ^ 149) (pow_pos 149) (pow_pos 149) (refl, v.1) bound_value (mul-le-mul_right (2 ^ 149) h))

unlevel : (a b : ℕ) → b < a → eqb a b ≡ false
unlevel a b h = is_false (eqb a b) (not_T (eqb a b) (λ t. no (eqb→eq a b t)))
  where
    no : a ≡ b → ⊥
    no e = omega arith

above : (a b : ℕ) → b < a → ltb a b || (eqb a b && true) ≡ false
above a b h = rw (is_false (ltb a b) (le→nltb a b (le_of_lt h)), unlevel a b h)

less : (a d u : ℕ) → 0 < d → a * 2 ^ 149 ≡ u * d → 2 ^ 169 < u → 1 * 2 ^ 20 * d < a * 1
less a d u p v h =
    lt_of_mul-lt-mul_right (2 ^ 149)
    (lt_of_le_of_lt (le_of_eq (mul_right_comm (2 ^ 20) d (2 ^ 149)))
    (lt_of_lt_of_le (mul-lt-mul_of_pos_right h p) (le_of_eq (sym v ∙ ap (λ (n : ℕ). n * 2 ^ 149) (sym (mul-one a))))))

outside : (x : Float) (s : Bool) (u : ℕ) → HasValue x s u (2 ^ 149) → 2 ^ 169 < u → coordinate_good x ≡ false
unfolding abs_of le lt eq
outside nan s u v h = absurd v
outside (inf t) s u v h = absurd v
outside (fin t m e) s u v h = rw bound_is (above (m * up e * 1) (1 * 2 ^ 20 * down e) (less (m * up e) (down e) u (down_pos e) v.1 h))

-- ---- every pattern
module _ (p : ℕ) (most : p < 2 ^ 32) where
  abbrev size : ℕ
  size = p % 2 ^ 31

  signs : (p ≡ size) ⊎ (p ≡ 2 ^ 31 + size)
  signs = ⊎_elim (λ g. inl (omega arith)) (λ g. inr (omega arith)) (lt-or_ge p (2 ^ 31))

  finite : size < 255 * 2 ^ 23 → (s : Bool) × HasValue (value_of p) s (units_at (size / 2 ^ 23) (size % 2 ^ 23)) (2 ^ 149)
  finite h =
      ⊎_elim (λ e. (false, subst (λ (n : ℕ). HasValue (value_of n) false (units_at (size / 2 ^ 23) (size % 2 ^ 23)) (2 ^ 149)) (sym e) (pattern_value size h)))
      (λ e. (true, subst (λ (n : ℕ). HasValue (value_of n) true (units_at (size / 2 ^ 23) (size % 2 ^ 23)) (2 ^ 149)) (sym e) (pattern_value_negated size h)))
      signs

  infinite : size ≡ 255 * 2 ^ 23 → coordinate_good (value_of p) ≡ false
  unfolding of_bits abs_of le lt eq
  infinite h = ⊎_elim (λ e. ap (λ (n : ℕ). coordinate_good (value_of n)) (e ∙ h)) (λ e. ap (λ (n : ℕ). coordinate_good (value_of n)) (e ∙ ap (λ (n : ℕ). 2 ^ 31 + n) h)) signs

  none : 255 * 2 ^ 23 < size → coordinate_good (value_of p) ≡ false
  unfolding abs_of le lt eq
  none h = ap coordinate_good (sym (nan_read p h))

  good : size ≤ 147 * 2 ^ 23 → coordinate_good (value_of p) ≡ true
  good h =
      let v = finite (omega arith) in
      inside (value_of p) v.0 (units_at (size / 2 ^ 23) (size % 2 ^ 23)) v.1 (few (size / 2 ^ 23) (size % 2 ^ 23) (omega arith) (omega arith))

  bad : 147 * 2 ^ 23 < size → coordinate_good (value_of p) ≡ false
  bad h =
      ⊎_elim
      (λ g.
      let v = finite g in
      outside (value_of p) v.0 (units_at (size / 2 ^ 23) (size % 2 ^ 23)) v.1 (many (size / 2 ^ 23) (size % 2 ^ 23) (omega arith) (omega arith)))
      (λ g. ⊎_elim (λ e. infinite (sym e)) (λ l. none l) (eq-or-lt_of_le g))
      (lt-or_ge size (255 * 2 ^ 23))

  -- 0x4980_0000 is the pattern of 1048576.0; larger numbers, infinity and NaN are above it
  pub by_pattern : leb (p % 2 ^ 31) 0x4980_0000 ≡ coordinate_good (value_of p)
  by_pattern =
      ⊎_elim (λ g. is_false (leb size 0x4980_0000) (lt→nleb size 0x4980_0000 g) ∙ sym (bad g)) (λ g. is_true (leb size 0x4980_0000) (le→leb size 0x4980_0000 g) ∙ sym (good g))
      (lt-or_ge (147 * 2 ^ 23) size)

-- ---- the three of a corner, as they are read

-- where the first stands
abbrev pub from : ℕ → ℕ
from i = faces_from + face_bytes * (i / 3) + point_bytes + point_bytes * (i % 3)

pub first : (i : ℕ) → from i ≡ place_of (i * 3)
first i =
    let p = place i 0 (omega arith) in
    let k : i * 3 ≡ i * 3 + 0 = omega arith in
    let q : from i ≡ from i + 4 * 0 = omega arith in
    q ∙ p ∙ ap place_of (sym k)

-- what is told of a word that was read
pub told : (bs : List ℕ) {p q w : ℕ} {r : Bool} → p ≡ q → w ≡ word_from bs p → r ≡ coordinate_good (value_of w) → coordinate_good (value_of (word_from bs q)) ≡ r
told bs e f g = ap (λ (n : ℕ). coordinate_good (value_of (word_from bs n))) (sym e) ∙ ap (λ (n : ℕ). coordinate_good (value_of n)) (sym f) ∙ sym g

module _ (bs : List ℕ) (i : ℕ) where
  abbrev X : Bool
  X = coordinate_good (coordinate_in bs (i * 3))

  abbrev Y : Bool
  Y = coordinate_good (coordinate_in bs (i * 3 + 1))

  abbrev Z : Bool
  Z = coordinate_good (coordinate_in bs (i * 3 + 2))

  pub no_first : X ≡ false → false ≡ corner_good bs i
  unfolding corner_good
  no_first e = sym (ap (λ (b : Bool). b && Y && Z) e)

  pub no_second : X ≡ true → Y ≡ false → false ≡ corner_good bs i
  unfolding corner_good
  no_second e f = sym (ap (λ (b : Bool). b && Y && Z) e ∙ ap (λ (b : Bool). true && b && Z) f)

  pub by_third : {r : Bool} → X ≡ true → Y ≡ true → Z ≡ r → r ≡ corner_good bs i
  unfolding corner_good
  by_third e f g = sym (ap (λ (b : Bool). b && Y && Z) e ∙ ap (λ (b : Bool). true && b && Z) f ∙ g)

  pub good-past : length bs / face_bytes < i / 3 → true ≡ corner_good bs i
  unfolding corner_good of_bits abs_of le lt eq
  good-past h = ap (λ (v : Vector). coordinate_good v.x && coordinate_good v.y && coordinate_good v.z) (corner_past bs i h)
