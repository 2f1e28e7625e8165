-- A positive f64 by its pattern and by its units.
use Rattle.std.proofs.Common.{◌≡◌, ℕ, zero, suc, ◌+◌, ◌-◌, ◌*◌, ◌/◌, ◌%◌, ◌^◌, ◌<◌, ◌≤◌, Bool, true, false, not, ◌&&◌, T, eqb, ltb, leb, ℤ, pos, negsuc, sym, refl, ap, ◌∙◌, subst, ⊎_elim, le_trans, le_of_eq, lt_of_lt_of_le, mul-le-mul_right, zero-lt-suc, div-lt_iff_lt-mul, mul-lt-mul_of_pos_right, mul-pos, one-mul, le-div_iff_mul-le, zero-mul, mul-one, mul_right_comm, not-le_of_lt, div-one, mul-div_cancel, arith, lit<, eqb→eq, ltb→lt, leb→le, pow_pos}
use native.Mathlib.Nat.{zero-div}
use lib.Dec.{not_T}
use lib.Arith.{le→nltb, lt→nleb}
use lib.Pow.{pow-lt, shl-shr}
use lib.Ieee.{Float, nan, inf, fin, up, down, binary64, fits, of_bits, to_bits, of_fields, odd, nan_bits, is_nan, lt, eq, size}
use lib.Ieee.Bits.{of_bits-to_bits, of_bits-fits, nan_bits_above, is_false}
use lib.Ieee.Digits.{size-le}
use lib.Ieee.Exact.{HasValue, odd_sign}
use lib.Ieee.Fits.{and_l, and_r, up_pos, down_pos, kept-lt}
use Rattle.vector.specs.Root.{units_of, plain, Nearest}
use Rattle.vector.specs.InnerSteps.{NearestUnits}
use Rattle.vector.specs.Units.{at, units_at}
use Rattle.vector.proofs.Roots.{shift_to, lt-or_ge}

-- ---- units
pub units_val : (x : Float) (a : ℕ) → HasValue x false a (2 ^ 1074) → units_of x ≡ a
unfolding units_of
units_val nan a h = absurd h
units_val (inf s) a h = absurd h
units_val (fin s m e) a h = ap (λ (z : ℕ). z / down e) h.1 ∙ mul-div_cancel a (down_pos e)

plain-val : (x : Float) (a c : ℕ) → HasValue x false a c → T (plain x)
plain-val nan a c h = absurd h
plain-val (inf s) a c h = absurd h
plain-val (fin true m e) a c h = absurd (subst (λ (b : Bool). T b) h.0 tt)
plain-val (fin false m e) a c h = tt

less_not : (x : ℕ) → suc x ≡ 2047 → suc x < 2047 → ⊥
less_not x e h = omega arith

-- the value of a pattern below that of infinity
of_fields_lem : (x t : ℕ) → x < 2047 → HasValue (of_fields binary64 false x t) false (units_at x t) (2 ^ 1074)
unfolding of_fields
of_fields_lem zero t h = subst (λ (a : ℕ). HasValue (odd 53 false t 0 1074) false a (2 ^ 1074)) (mul-one t) (odd_sign 53 false t 0 1074)
of_fields_lem (suc x) t h =
    let n : eqb (suc x) 2047 ≡ false = is_false (eqb (suc x) 2047) (not_T (eqb (suc x) 2047) (λ u. less_not x (eqb→eq (suc x) 2047 u) h)) in
    rw n (odd_sign 53 false (2 ^ 52 + t) x 1074)

pub of_bits_lem : (b : ℕ) → b < 2047 * 2 ^ 52 → HasValue (of_bits binary64 b) false (at b) (2 ^ 1074)
unfolding of_bits at
of_bits_lem b h =
    let s : leb (2 ^ 63) b ≡ false = is_false (leb (2 ^ 63) b) (lt→nleb (2 ^ 63) b (omega arith)) in
    let r : b % 2 ^ 63 ≡ b = omega arith in
    rw (s, r) (of_fields_lem (b / 2 ^ 52) (b % 2 ^ 52) (omega arith))

pub not_nan : (b : ℕ) → b < 2047 * 2 ^ 52 → T (not (nan_bits binary64 b))
not_nan b h = rw (nan_bits_above binary64 b) (le→nltb (2047 * 2 ^ 52) (b % 2 ^ 63) (omega arith))

exponents : (a b : ℕ) → 2 ^ a ≤ 2 ^ b → a ≤ b
exponents a b h = ⊎_elim (λ g. absurd (not-le_of_lt (pow-lt g) h)) (λ g. g) (lt-or_ge b a)

-- ---- what fits
abbrev fit_a : ℕ → ℤ → Bool
fit_a m e = eqb (suc m % 2) 1

abbrev fit_b : ℕ → ℤ → Bool
fit_b m e = ltb (suc m) (2 ^ 53)

abbrev fit_c : ℕ → ℤ → Bool
fit_c m e = leb (down e) (2 ^ 1074)

abbrev fit_d : ℕ → ℤ → Bool
fit_d m e = ltb (suc m * up e) (2 ^ 1024 * down e)

few : (s : Bool) (m : ℕ) (e : ℤ) → T (fits binary64 (fin s (suc m) e)) → suc m < 2 ^ 53
unfolding fits
few s m e h = ltb→lt (suc m) (2 ^ 53) (and_r (fit_a m e) (fit_b m e) (and_l (fit_a m e && fit_b m e) (fit_c m e) (and_l (fit_a m e && fit_b m e && fit_c m e) (fit_d m e) h)))

fine : (s : Bool) (m : ℕ) (e : ℤ) → T (fits binary64 (fin s (suc m) e)) → down e ≤ 2 ^ 1074
unfolding fits
fine s m e h = leb→le (down e) (2 ^ 1074) (and_r (fit_a m e && fit_b m e) (fit_c m e) (and_l (fit_a m e && fit_b m e && fit_c m e) (fit_d m e) h))

short : (s : Bool) (m : ℕ) (e : ℤ) → T (fits binary64 (fin s (suc m) e)) → suc m * up e < 2 ^ 1024 * down e
unfolding fits
short s m e h = ltb→lt (suc m * up e) (2 ^ 1024 * down e) (and_r (fit_a m e && fit_b m e && fit_c m e) (fit_d m e) h)

-- a value is a number of at most 53 digits with zeros behind
pub shape : (z : Float) → T (fits binary64 z) → T (plain z) → (m : ℕ) × (j : ℕ) × (m < 2 ^ 53) × (units_of z ≡ m * 2 ^ j)
unfolding units_of
shape nan h p = absurd p
shape (inf s) h p = absurd p
shape (fin true m e) h p = absurd p
shape (fin false zero e) h p = (0, 0, lit< tt, rw (zero-mul (up e), zero-mul (2 ^ 1074), zero-div (down e)))
shape (fin false (suc m) (pos k)) h p = (suc m, k + 1074, few false m (pos k) h, div-one (suc m * 2 ^ k * 2 ^ 1074) ∙ shift_to (suc m) k 1074 (k + 1074) refl)
shape (fin false (suc m) (negsuc k)) h p =
    let l : suc k ≤ 1074 = exponents (suc k) 1074 (fine false m (negsuc k) h) in
    let e : suc m * 1 * 2 ^ 1074 ≡ suc m * 2 ^ (1074 - suc k) * 2 ^ suc k = rw (mul-one (suc m)) (sym (shift_to (suc m) (1074 - suc k) (suc k) 1074 (omega arith))) in
    (suc m, 1074 - suc k, few false m (negsuc k) h, ap (λ (n : ℕ). n / 2 ^ suc k) e ∙ shl-shr (suc m * 2 ^ (1074 - suc k)) (suc k))

-- ---- the pattern of a positive value
packed_lt : (n k : ℕ) → k ≤ 2045 → n < 2 ^ 53 → 0 + k * 2 ^ 52 + n < 2047 * 2 ^ 52
packed_lt n k h l = omega arith

packed_pos : (n k : ℕ) → 0 < n → 0 < 0 + k * 2 ^ 52 + n / 2 ^ k
packed_pos n zero h = rw (div-one n) (omega arith)
packed_pos n (suc k) h = omega arith

pub units_pos : (m : ℕ) (e : ℤ) → T (fits binary64 (fin false (suc m) e)) → 0 < suc m * up e * 2 ^ 1074 / down e
units_pos m e h =
    (le-div_iff_mul-le {k = down e} {x = 1} {y = suc m * up e * 2 ^ 1074} (down_pos e)).1
    (le_trans (le_of_eq (one-mul (down e))) (le_trans (fine false m e h) (le_trans (le_of_eq (sym (one-mul (2 ^ 1074)))) (mul-le-mul_right (2 ^ 1074) (mul-pos (zero-lt-suc m) (up_pos e))))))

pub units_lt : (m : ℕ) (e : ℤ) → T (fits binary64 (fin false (suc m) e)) → suc m * up e * 2 ^ 1074 / down e < 2 ^ 2098
units_lt m e h =
    (div-lt_iff_lt-mul {k = down e} {x = suc m * up e * 2 ^ 1074} {y = 2 ^ 2098} (down_pos e)).1
    (lt_of_lt_of_le (mul-lt-mul_of_pos_right (short false m e h) (pow_pos 1074)) (le_of_eq (mul_right_comm (2 ^ 1024) (down e) (2 ^ 1074))))

pub bits_in : (m : ℕ) (e : ℤ) → T (fits binary64 (fin false (suc m) e)) → (0 < to_bits binary64 (fin false (suc m) e)) × (to_bits binary64 (fin false (suc m) e) < 2047 * 2 ^ 52)
unfolding to_bits
bits_in m e h =
    let n = suc m * up e * 2 ^ 1074 / down e in
    let k = size n - 53 in
    let l = size-le n 2098 (units_lt m e h) in
    (packed_pos n k (units_pos m e h), packed_lt (n / 2 ^ k) k (omega arith) (kept-lt 53 n))

pub units_bits : (m : ℕ) (e : ℤ) → T (fits binary64 (fin false (suc m) e)) → units_of (fin false (suc m) e) ≡ at (to_bits binary64 (fin false (suc m) e))
units_bits m e h =
    let x = fin false (suc m) e in
    units_val x (at (to_bits binary64 x)) (subst (λ (z : Float). HasValue z false (at (to_bits binary64 x)) (2 ^ 1074)) (of_bits-to_bits binary64 x h) (of_bits_lem (to_bits binary64 x) (bits_in m e h).1))

-- ---- the root
pub nearest : (m : ℕ) (e : ℤ) (r : ℕ) → T (fits binary64 (fin false (suc m) e)) → r < 2047 * 2 ^ 52 → NearestUnits (at (to_bits binary64 (fin false (suc m) e))) (at r) → Nearest (fin false (suc m) e) (of_bits binary64 r)
nearest m e r h l q =
    let y = units_val (of_bits binary64 r) (at r) (of_bits_lem r l) in
    let x = units_bits m e h in
    record {
      format = of_bits-fits binary64 r;
      sign = plain-val (of_bits binary64 r) (at r) (2 ^ 1074) (of_bits_lem r l);
      above = λ z f p t. let w = shape z f p in rw (x, y, w.3) (q.above w.0 w.1 w.2 (rw (y, w.3) at t));
      below = λ z f p t. let w = shape z f p in rw (x, y, w.3) (q.below w.0 w.1 w.2 (rw (y, w.3) at t));
    }

-- ---- the tests of `sqrt`
abbrev pub nil : Float
nil = fin false 0 (pos 0)

-- finite and above zero, in the form that the cases of `RootOf` have
pub data Above : Float → Type 0 where
  above : (m : ℕ) (e : ℤ) → Above (fin false (suc m) e)

pub is_above : (x : Float) → lt nil x ≡ true → lt x (inf false) ≡ true → Above x
unfolding lt
is_above x p q = go x (subst T (sym p) tt) (subst T (sym q) tt)
  where
    go : (x : Float) → T (lt nil x) → T (lt x (inf false)) → Above x
    go nan p q = absurd p
    go (inf true) p q = absurd p
    go (inf false) p q = absurd q
    go (fin true m e) p q = absurd p
    go (fin false zero e) p q = absurd (zero_left (up e) (ltb→lt (0 * 1 * down e) (0 * up e * 1) p))
      where
        zero_left : (u : ℕ) → 0 * 1 * down e < 0 * u * 1 → ⊥
        zero_left u h = omega (arith, zero-mul u)
    go (fin false (suc m) e) p q = above m e

pub no_nan : (x : Float) → Above x → T (not (is_nan x))
unfolding is_nan
no_nan x (above m e) = tt

-- what is above something is no NaN
pub beyond-no_nan : (a x : Float) → lt a x ≡ true → T (not (is_nan x))
unfolding lt is_nan
beyond-no_nan nan nan p = subst T (sym p) tt
beyond-no_nan (inf s) nan p = subst T (sym p) tt
beyond-no_nan (fin s m e) nan p = subst T (sym p) tt
beyond-no_nan a (inf s) p = tt
beyond-no_nan a (fin s m e) p = tt

pub in_patterns : (x : Float) → T (fits binary64 x) → Above x → (0 < to_bits binary64 x) × (to_bits binary64 x < 2047 * 2 ^ 52)
in_patterns x h (above m e) = bits_in m e h

pub some : (m : ℕ) (e : ℤ) → suc m * up e * 1 ≡ 0 * 1 * down e → ⊥
some m e h = omega (arith, mul-pos (zero-lt-suc m) (up_pos e))

pub level_zero : (s : Bool) (e : ℤ) → T (eq (fin s 0 e) nil)
unfolding eq
level_zero true e = rw (zero-mul (up e), zero-mul (down e)) tt
level_zero false e = rw (zero-mul (up e), zero-mul (down e)) tt
