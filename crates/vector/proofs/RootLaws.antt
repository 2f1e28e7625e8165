-- What callers want of the square root: it is 0 exactly at 0, it is monotone, and a length over a NaN is NaN.
use Rattle.std.proofs.Common.{◌≡◌, ℕ, zero, suc, ◌+◌, ◌*◌, ◌/◌, ◌^◌, ◌<◌, ◌≤◌, Bool, true, false, Result, Ok, Err, not, T, ltb, ◌⊎◌, ℤ, sym, refl, ap, ◌∙◌, subst, inl, inr, ⊎_elim, le_trans, le_of_eq, lt_of_lt_of_le, lt_of_le_of_lt, mul-le-mul_right, zero-lt-suc, mul-pos, one-mul, zero-mul, mul_right_comm, arith, lit<, ltb→lt, lt→ltb, nltb→le, pow_pos}
use Rattle.std.specs.Result.{result_unwrap_or}
use lib.Arith.{le→nltb}
use lib.Ieee.{Float, nan, inf, fin, up, down, binary64, fits, of_bits, to_bits, add, mul, lt, eq, is_nan}
use lib.Ieee.Bits.{is_false}
use lib.Ieee.Exact.{HasValue}
use lib.Ieee.Fits.{up_pos, down_pos, add-fits}
use lib.Ieee.Nearest.{div_mono}
use lib.Ieee.Order.{transfer}
use Rattle.vector.specs.declared.Vector.{Vector}
use Rattle.vector.specs.Vectors.{length_squared_of}
use Rattle.vector.specs.Lengths.{or_nan, zero64, length_of}
use Rattle.vector.specs.Root.{units_of, mid, under, root_bits, root_of}
use Rattle.vector.specs.InnerSteps.{NearestUnits}
use Rattle.refusal.specs.declared.Refusal.{Refusal}
use Rattle.refusal.specs.Said.{value_said}
use Rattle.vector.specs.Units.{at}
use Rattle.vector.proofs.Roots.{lt-or_ge}
use Rattle.vector.proofs.Patterns.{nil, above, of_bits_lem, in_patterns, units_bits, units_pos, units_lt}
use Rattle.vector.proofs.RootSearch.{at-mono, under-down, found, root_is, no_zero}
use Rattle.vector.proofs.RootNearest.{root_of_lem}
use Rattle.vector.proofs.Order.{lt-through}

-- the root that is answered, NaN where it is refused
abbrev pub rooted : Float → Float
rooted x = or_nan (root_of x)

-- ---- the pattern of the root
is_no : (b : Bool) → (b ≡ true → ⊥) → b ≡ false
is_no true h = absurd (h refl)
is_no false h = refl

-- the midpoint of 0 and the smallest f64 is not above the root of a positive number
one_up : (n : ℕ) → 0 < n → n < 2 ^ 2098 → 1 ≤ root_bits n
unfolding under mid at
one_up n h l = ⊎_elim (λ g. omega arith) (λ g. absurd ((found n h l).1 (last (omega arith)))) (lt-or_ge 0 (root_bits n))
  where
    last : root_bits n ≡ 0 → T (under n (root_bits n + 1))
    last z = rw z (lt→ltb 1 (n * 2 ^ 1076) (lt_of_lt_of_le (lit< tt) (le_trans (le_of_eq (sym (one-mul (2 ^ 1076)))) (mul-le-mul_right (2 ^ 1076) h))))

-- more units have no lower root
bits_mono : (n k : ℕ) → 0 < n → n ≤ k → k < 2 ^ 2098 → root_bits n ≤ root_bits k
unfolding under
bits_mono n k h l t = ⊎_elim (λ g. absurd (f.1 (under-down k (root_bits k + 1) (root_bits n) (omega arith) (more g₀.0)))) (λ g. g) (lt-or_ge (root_bits k) (root_bits n))
  where
    f : T (under k (root_bits k)) × (T (under k (root_bits k + 1)) → ⊥)
    f = found k (lt_of_lt_of_le h l) t

    g₀ : T (under n (root_bits n)) × (T (under n (root_bits n + 1)) → ⊥)
    g₀ = found n h (lt_of_le_of_lt l t)

    more : T (under n (root_bits n)) → T (under k (root_bits n))
    more u = lt→ltb (mid (root_bits n) * mid (root_bits n)) (k * 2 ^ 1076) (lt_of_lt_of_le (ltb→lt (mid (root_bits n) * mid (root_bits n)) (n * 2 ^ 1076) u) (mul-le-mul_right (2 ^ 1076) l))

pub zero_below : (s : Bool) (n : ℕ) (e d : ℤ) → lt (fin s 0 e) (fin false (suc n) d) ≡ false → ⊥
unfolding lt
zero_below true n e d p = absurd (subst T p (lt→ltb 0 (0 * up e * down d + suc n * up d * down e) (omega (arith, mul-pos (mul-pos (zero-lt-suc n) (up_pos d)) (down_pos e)))))
zero_below false n e d p =
    absurd (subst T p (lt→ltb (0 * up e * down d) (suc n * up d * down e) (rw (zero-mul (up e), zero-mul (down d)) (mul-pos (mul-pos (zero-lt-suc n) (up_pos d)) (down_pos e)))))

module _ (m : ℕ) (e : ℤ) (h : T (fits binary64 (fin false (suc m) e))) where
  pattern_lt : root_bits (units_of (fin false (suc m) e)) < 2047 * 2 ^ 52
  unfolding units_of
  pattern_lt =
      let x = fin false (suc m) e in
      let i = in_patterns x h (above m e) in
      let r = root_of_lem (to_bits binary64 x) i.0 i.1 in
      subst (λ (b : ℕ). b < 2047 * 2 ^ 52)
      (root_is (units_of x) (units_pos m e h) (units_lt m e h) r.0 (subst (λ (n : ℕ). NearestUnits n (at r.0)) (sym (units_bits m e h)) r.1.1))
      r.1.0

  -- the value of the root
  pub value : HasValue (rooted (fin false (suc m) e)) false (at (root_bits (units_of (fin false (suc m) e)))) (2 ^ 1074)
  unfolding root_of
  value = of_bits_lem (root_bits (units_of (fin false (suc m) e))) pattern_lt

  pub value_pos : 0 < at (root_bits (units_of (fin false (suc m) e)))
  unfolding units_of
  value_pos = let o : 0 < at 1 = unfold at in lit< tt in lt_of_lt_of_le o (at-mono 1 (root_bits (suc m * up e * 2 ^ 1074 / down e)) (one_up (suc m * up e * 2 ^ 1074 / down e) (units_pos m e h) (units_lt m e h)))

-- ---- comparing
pub not_lt : (x y : Float) (a b c : ℕ) → 0 < c → HasValue x false a c → HasValue y false b c → b ≤ a → lt x y ≡ false
unfolding lt
not_lt nan y a b c k h g l = absurd h
not_lt (inf s) y a b c k h g l = absurd h
not_lt (fin s m e) nan a b c k h g l = absurd g
not_lt (fin s m e) (inf t) a b c k h g l = absurd g
not_lt (fin s m e) (fin t n d) a b c k h g l =
    let o = transfer (n * up d) (m * up e) (down d) (down e) b a c c k k g.1 h.1 (mul-le-mul_right c l) in
    rw (h.0, g.0) (is_false (ltb (m * up e * down d) (n * up d * down e)) (le→nltb (m * up e * down d) (n * up d * down e) o))

not_zero : (x : Float) (a c : ℕ) → 0 < a → HasValue x false a c → eq x nil ≡ false
not_zero nan a c k h = absurd h
not_zero (inf s) a c k h = absurd h
not_zero (fin s zero e) a c k h = absurd (empty h.1 (mul-pos k (down_pos e)))
  where
    empty : 0 * up e * c ≡ a * down e → 0 < a * down e → ⊥
    empty p q = omega (arith, ap (λ (x : ℕ). x * c) (zero-mul (up e)), zero-mul c)
not_zero (fin s (suc m) e) a c k h = is_no (eq (fin s (suc m) e) nil) (no_zero s m e)

-- a number above or below zero is not below a zero unless it has a sign
over_zero : (x : Float) (a c : ℕ) (t : Bool) (d : ℤ) → HasValue x false a c → lt x (fin t 0 d) ≡ false
unfolding lt
over_zero nan a c t d h = absurd h
over_zero (inf s) a c t d h = absurd h
over_zero (fin s m e) a c true d h = rw h.0
over_zero (fin s m e) a c false d h = rw (h.0, zero-mul (up d), zero-mul (down e)) (is_false (ltb (m * up e * down d) 0) (le→nltb (m * up e * down d) 0 (omega arith)))

never_nan : (x : Float) → lt x nan ≡ false
unfolding lt
never_nan nan = refl
never_nan (inf s) = refl
never_nan (fin s m e) = refl

pub never_above : (y : Float) → lt (inf false) y ≡ false
unfolding lt
never_above nan = refl
never_above (inf t) = refl
never_above (fin t n d) = refl

-- units are in the order of the values
units_mono : (m n : ℕ) (e d : ℤ) → lt (fin false (suc m) e) (fin false (suc n) d) ≡ false → units_of (fin false (suc n) d) ≤ units_of (fin false (suc m) e)
unfolding lt units_of
units_mono m n e d h =
    let o = nltb→le (suc m * up e * down d) (suc n * up d * down e) (subst (λ (b : Bool). T (not b)) (sym h) tt) in
    div_mono (suc n * up d * 2 ^ 1074) (down d) (suc m * up e * 2 ^ 1074) (down e) (down_pos d) (down_pos e)
    (le_trans (le_of_eq (mul_right_comm (suc n * up d) (2 ^ 1074) (down e)))
    (le_trans (mul-le-mul_right (2 ^ 1074) o) (le_of_eq (mul_right_comm (suc m * up e) (down d) (2 ^ 1074)))))

-- ---- the laws

-- the root is 0 exactly where the number is
pub root_zero : (x : Float) → T (fits binary64 x) → eq (rooted x) nil ≡ eq x nil
root_zero nan h = unfold root_of in refl
root_zero (inf true) h = unfold root_of eq in refl
root_zero (inf false) h = unfold root_of in refl
root_zero (fin s zero e) h = unfold root_of in refl
root_zero (fin true (suc m) e) h = unfold root_of eq in sym (is_no (eq (fin true (suc m) e) nil) (no_zero true m e))
root_zero (fin false (suc m) e) h =
    not_zero (rooted (fin false (suc m) e)) (at (root_bits (units_of (fin false (suc m) e)))) (2 ^ 1074) (value_pos m e h) (value m e h)
    ∙ sym (is_no (eq (fin false (suc m) e) nil) (no_zero false m e))

-- a computed length is 0 exactly if the computed sum of squares is
pub length-zero : (v : Vector) → eq (length_of v) zero64 ≡ eq (length_squared_of v) zero64
unfolding of_bits
length-zero v = root_zero (length_squared_of v) (add-fits binary64 _ _)

-- of two numbers the one that is not below has a root that is not below, NaN and numbers below zero included
pub sqrt_monotone : (x y : Float) → T (fits binary64 x) → T (fits binary64 y) → lt x y ≡ false → lt (rooted x) (rooted y) ≡ false
sqrt_monotone nan y h k p = unfold root_of lt in refl
sqrt_monotone (inf true) y h k p = unfold root_of lt in refl
sqrt_monotone (fin true (suc m) e) y h k p = unfold root_of lt in refl
sqrt_monotone (inf false) y h k p = unfold root_of in never_above (rooted y)
sqrt_monotone (fin s zero e) nan h k p = unfold root_of in never_nan (fin s zero e)
sqrt_monotone (fin s zero e) (inf true) h k p = unfold root_of in never_nan (fin s zero e)
sqrt_monotone (fin s zero e) (inf false) h k p = unfold root_of in p
sqrt_monotone (fin s zero e) (fin t zero d) h k p = unfold root_of in p
sqrt_monotone (fin s zero e) (fin true (suc n) d) h k p = unfold root_of in never_nan (fin s zero e)
sqrt_monotone (fin s zero e) (fin false (suc n) d) h k p = absurd (zero_below s n e d p)
sqrt_monotone (fin false (suc m) e) nan h k p = unfold root_of in never_nan (rooted (fin false (suc m) e))
sqrt_monotone (fin false (suc m) e) (inf true) h k p = unfold root_of in never_nan (rooted (fin false (suc m) e))
sqrt_monotone (fin false (suc m) e) (inf false) h k p = absurd (subst T p (unfold lt in tt))
sqrt_monotone (fin false (suc m) e) (fin t zero d) h k p = unfold root_of in over_zero (rooted (fin false (suc m) e)) _ (2 ^ 1074) t d (value m e h)
sqrt_monotone (fin false (suc m) e) (fin true (suc n) d) h k p = unfold root_of in never_nan (rooted (fin false (suc m) e))
sqrt_monotone (fin false (suc m) e) (fin false (suc n) d) h k p =
    not_lt (rooted (fin false (suc m) e)) (rooted (fin false (suc n) d)) _ _ (2 ^ 1074) (pow_pos 1074) (value m e h) (value n d k)
    (at-mono (root_bits (units_of (fin false (suc n) d))) (root_bits (units_of (fin false (suc m) e)))
    (bits_mono (units_of (fin false (suc n) d)) (units_of (fin false (suc m) e)) (unfold units_of in units_pos n d k) (units_mono m n e d p) (unfold units_of in units_lt m e h)))

-- what has a value is no NaN
not_nan_value : (x : Float) (a c : ℕ) → HasValue x false a c → T (not (is_nan x))
unfolding is_nan
not_nan_value nan a c h = absurd h
not_nan_value (inf s) a c h = tt
not_nan_value (fin s m e) a c h = tt

-- what is above a number that has a root has one
pub root_some : (m s : Float) → T (fits binary64 s) → T (not (is_nan (rooted m))) → T (lt m s) → T (not (is_nan (rooted s)))
unfolding lt root_of is_nan
root_some m nan h r p = absurd (subst T (never_nan m) p)
root_some nan (inf true) h r p = absurd p
root_some (inf true) (inf true) h r p = absurd p
root_some (inf false) (inf true) h r p = absurd p
root_some (fin t n d) (inf true) h r p = absurd p
root_some m (inf false) h r p = tt
root_some m (fin s zero e) h r p = tt
root_some nan (fin true (suc k) e) h r p = absurd p
root_some (inf true) (fin true (suc k) e) h r p = absurd r
root_some (inf false) (fin true (suc k) e) h r p = absurd p
root_some (fin true zero d) (fin true (suc k) e) h r p = let z : zero * up d * down e ≡ 0 = rw (zero-mul (up d)) (zero-mul (down e)) in absurd (omega (arith, z, ltb→lt (suc k * up e * down d) (zero * up d * down e) p))
root_some (fin true (suc n) d) (fin true (suc k) e) h r p = absurd r
root_some (fin false n d) (fin true (suc k) e) h r p = absurd p
root_some m (fin false (suc k) e) h r p = not_nan_value (rooted (fin false (suc k) e)) _ (2 ^ 1074) (value k e h)

-- what is below the root of a number is below that of any number that is not below it
pub root_through : (s m d : Float) → T (fits binary64 s) → T (fits binary64 m) → lt m s ≡ false → T (not (is_nan (rooted m))) → T (lt d (rooted s)) → T (lt d (rooted m))
root_through s m d h k p r l = lt-through d (rooted s) (rooted m) l (subst (λ (b : Bool). T (not b)) (sym (sqrt_monotone m s k h p)) tt) r

-- a length over a NaN is NaN
add-nan : (x : Float) → add binary64 x nan ≡ nan
unfolding add
add-nan nan = refl
add-nan (inf s) = refl
add-nan (fin s m e) = refl

pub length_nan : (v : Vector) → (v.x ≡ nan) ⊎ (v.y ≡ nan) ⊎ (v.z ≡ nan) → length_of v ≡ nan
length_nan v h = ap rooted (square h) ∙ (unfold root_of in refl)
  where
    square : (v.x ≡ nan) ⊎ (v.y ≡ nan) ⊎ (v.z ≡ nan) → length_squared_of v ≡ nan
    square (inl p) = unfold mul add in rw p
    square (inr (inl p)) = unfold mul in rw p (rw (add-nan (mul binary64 v.x v.x)) (unfold add in refl))
    square (inr (inr p)) = unfold mul in rw p (add-nan _)

-- the value of an answer, NaN where it was refused, is what is read of what it says
pub unwrapped : (r : Result Float Refusal) → result_unwrap_or r nan ≡ or_nan (value_said r)
unwrapped (Ok y) = refl
unwrapped (Err e) = refl
