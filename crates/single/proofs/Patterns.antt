-- What a pattern stands for, and which numbers have one. The pattern of a number that has one stands for that number, and a pattern that is no NaN's is the pattern of its number.
use mathlib.Core.Path.{◌≡◌, refl, sym, ap, ◌∙◌, subst}
use mathlib.Core.Bool.{Bool, true, false, not, cond, ◌&&◌, beq, ◌||◌}
use Prim.Native.Nat.{ℕ, zero, suc, ◌+◌, ◌*◌, ◌/◌, ◌%◌, ◌^◌, ◌≤◌, ◌<◌}
use native.Mathlib.Nat.{mul-one}
use native.Mathlib.Omega.{arith}
use lib.Dec.{T, leb, eqb, eqb→eq, eqb_refl, lt→ltb, not_T, le→leb, lit<}
use lib.Arith.{le→nltb, lt→nleb}
use lib.Ieee.{Float, nan, inf, fin, up, down, odd, binary32, binary64, fits, is_nan, nan_bits, of_bits, to_bits, of_fields, eq}
use lib.Ieee.Bits.{is_true, is_false, of_bits-to_bits, to_bits-of_bits, to_bits-lt, of_bits-fits, nan_bits_is, nan_bits_above}
use lib.Ieee.Exact.{HasValue, odd_sign}
use lib.Ieee.Fits.{and_i, fits_widens}
use Rattle.single.specs.Singles.{is_single, value_of, pattern_of, units_at}

-- ---- only NaN is not equal to itself
pub itself : (x : Float) → eq x x ≡ true → T (not (is_nan x))
unfolding eq is_nan
itself nan e = subst T (sym e) tt
itself (inf s) e = tt
itself (fin s m k) e = tt

pub not_itself : (x : Float) → eq x x ≡ false → nan ≡ x
unfolding eq
not_itself nan e = refl
not_itself (inf true) e = absurd (subst T e tt)
not_itself (inf false) e = absurd (subst T e tt)
not_itself (fin s m k) e = absurd (subst T e (and_i (eqb (m * up k * down k) (m * up k * down k)) (beq s s || eqb (m * up k * down k) 0) (eqb_refl (m * up k * down k)) (signs s)))
  where
    signs : (s : Bool) → T (beq s s || eqb (m * up k * down k) 0)
    signs true = tt
    signs false = tt

-- ---- the tests of `value`
nan_is : (x : Float) → T (is_nan x) → nan ≡ x
unfolding is_nan
nan_is nan h = refl
nan_is (inf s) h = absurd h
nan_is (fin s m e) h = absurd h

pub nan_read : (p : ℕ) → 255 * 2 ^ 23 < p % 2 ^ 31 → nan ≡ value_of p
nan_read p h = nan_is (value_of p) (rw (← nan_bits_is binary32 p, nan_bits_above binary32 p) (lt→ltb (255 * 2 ^ 23) (p % 2 ^ 31) h))

pub no_nan_bits : (p : ℕ) → p % 2 ^ 31 ≤ 255 * 2 ^ 23 → T (not (nan_bits binary32 p))
no_nan_bits p h = rw (nan_bits_above binary32 p) (le→nltb (255 * 2 ^ 23) (p % 2 ^ 31) h)

pub no_nan : (p : ℕ) → p % 2 ^ 31 ≤ 255 * 2 ^ 23 → T (not (is_nan (value_of p)))
no_nan p h = rw (← nan_bits_is binary32 p) (no_nan_bits p h)

-- an f64 holds what a pattern stands for
pub holds : (p : ℕ) → p % 2 ^ 31 ≤ 255 * 2 ^ 23 → T (fits binary64 (value_of p) && not (is_nan (value_of p)))
holds p h = and_i (fits binary64 (value_of p)) (not (is_nan (value_of p))) (fits_widens (value_of p) (of_bits-fits binary32 p)) (no_nan p h)

-- ---- the answers of `is_single` and of `pattern`
pub by_fields : (x : Float) (r : Bool) → T (fits binary64 x)
    → ((s : Bool) → r ≡ fits binary32 (of_fields binary64 s (to_bits binary64 x % 2 ^ 63 / 2 ^ 52) (to_bits binary64 x % 2 ^ 52))) → r ≡ is_single x
unfolding of_bits
by_fields x r h k = k (leb (2 ^ 63) (to_bits binary64 x)) ∙ ap (fits binary32) (of_bits-to_bits binary64 x h)

pub nan_single : (x : Float) → nan ≡ x → true ≡ is_single x
unfolding fits
nan_single x e = ap is_single e

-- what the cast asks
pub narrows : (x : Float) → is_single x ≡ true → T (not (is_nan x)) → T (fits binary32 x && not (is_nan x))
narrows x h n = and_i (fits binary32 x) (not (is_nan x)) (subst T (sym h) tt) n

pub written : (x : Float) → is_single x ≡ true → T (not (is_nan x)) → to_bits binary32 x ≡ pattern_of x
unfolding pattern_of
written x h n = rw (h, is_false (is_nan x) n)

pub not_written : (x : Float) → is_single x ≡ false → 0 ≡ pattern_of x
unfolding pattern_of
not_written x h = rw h

pub nan_written : (x : Float) → nan ≡ x → 0 ≡ pattern_of x
unfolding pattern_of is_nan fits
nan_written x e = ap pattern_of e

-- ---- what the definitions mean

-- each pattern stands for an f32
pub value_single : (p : ℕ) → is_single (value_of p) ≡ true
value_single p = is_true (is_single (value_of p)) (of_bits-fits binary32 p)

-- the pattern of a number stands for it
pub value_of_pattern : (x : Float) → is_single x ≡ true → T (not (is_nan x)) → value_of (pattern_of x) ≡ x
value_of_pattern x h n = ap value_of (sym (written x h n)) ∙ of_bits-to_bits binary32 x (subst T (sym h) tt)

-- the number of a pattern that is no NaN's has that pattern
pub pattern_of_value : (p : ℕ) → p < 2 ^ 32 → T (not (is_nan (value_of p))) → pattern_of (value_of p) ≡ p
pattern_of_value p h n = sym (written (value_of p) (value_single p) n) ∙ to_bits-of_bits binary32 p h n

pub pattern_lt : (x : Float) → pattern_of x < 2 ^ 32
unfolding pattern_of
pattern_lt x = go (is_single x) (λ t. t) (not (is_nan x))
  where
    go : (b : Bool) → (T b → T (is_single x)) → (n : Bool) → cond (b && n) (to_bits binary32 x) 0 < 2 ^ 32
    go true f true = to_bits-lt binary32 x (f tt)
    go true f false = lit< tt
    go false f n = lit< tt

-- a number is exactly an f32 where a pattern stands for it, and only there
pub some_pattern : (x : Float) → T (not (is_nan x)) → (is_single x ≡ true → (p : ℕ) × (p < 2 ^ 32) × (value_of p ≡ x)) × ((p : ℕ) → value_of p ≡ x → is_single x ≡ true)
some_pattern x n = (λ h. (pattern_of x, pattern_lt x, value_of_pattern x h n), λ p e. sym (ap is_single e) ∙ value_single p)

-- ---- the value that IEEE 754 gives a pattern, in units of 2 ^ -149
of_fields_lem : (s : Bool) (x t : ℕ) → x < 255 → HasValue (of_fields binary32 s x t) s (units_at x t) (2 ^ 149)
unfolding of_fields
of_fields_lem s zero t h = subst (λ (a : ℕ). HasValue (odd 24 s t 0 149) s a (2 ^ 149)) (mul-one t) (odd_sign 24 s t 0 149)
of_fields_lem s (suc x) t h =
    let n : eqb (suc x) 255 ≡ false = is_false (eqb (suc x) 255) (not_T (eqb (suc x) 255) (λ u. no (eqb→eq (suc x) 255 u))) in
    rw n (odd_sign 24 s (2 ^ 23 + t) x 149)
  where
    no : suc x ≡ 255 → ⊥
    no e = omega arith

pub pattern_value : (p : ℕ) → p < 255 * 2 ^ 23 → HasValue (value_of p) false (units_at (p / 2 ^ 23) (p % 2 ^ 23)) (2 ^ 149)
unfolding of_bits
pattern_value p h =
    let s : leb (2 ^ 31) p ≡ false = is_false (leb (2 ^ 31) p) (lt→nleb (2 ^ 31) p (omega arith)) in
    let r : p % 2 ^ 31 ≡ p = omega arith in
    rw (s, r) (of_fields_lem false (p / 2 ^ 23) (p % 2 ^ 23) (omega arith))

-- with the sign's bit the same, negated
pub pattern_value_negated : (p : ℕ) → p < 255 * 2 ^ 23 → HasValue (value_of (2 ^ 31 + p)) true (units_at (p / 2 ^ 23) (p % 2 ^ 23)) (2 ^ 149)
unfolding of_bits
pattern_value_negated p h =
    let s : leb (2 ^ 31) (2 ^ 31 + p) ≡ true = is_true (leb (2 ^ 31) (2 ^ 31 + p)) (le→leb (2 ^ 31) (2 ^ 31 + p) (omega arith)) in
    let r : (2 ^ 31 + p) % 2 ^ 31 ≡ p = omega arith in
    let t : (2 ^ 31 + p) % 2 ^ 23 ≡ p % 2 ^ 23 = omega arith in
    rw (s, r, t) (of_fields_lem true (p / 2 ^ 23) (p % 2 ^ 23) (omega arith))
