-- What the proof of `abs` cites.
use Rattle.std.proofs.Common.{◌≡◌, ℕ, zero, suc, ◌+◌, ◌*◌, ◌^◌, ◌<◌, true, false, ◌||◌, T, eqb, ℤ, pos, negsuc, sym, refl, ap, ◌∙◌, subst, zero-lt-suc, mul-pos, pow-suc, arith, eqb→eq, ltb→lt, lt→ltb, pow_pos}
use mathlib.Core.Bool.{beq}
use lib.Ieee.{Float, nan, inf, fin, up, down, neg, lt, eq, binary64, fits}
use lib.Ieee.Fits.{and_l, up_pos}
use Rattle.vector.specs.Abs.{abs_of}
use Rattle.vector.proofs.Patterns.{nil, some, level_zero}

pub below : (x : Float) → lt x nil ≡ true → neg x ≡ abs_of x
unfolding lt neg abs_of
below nan p = refl
below (inf true) p = refl
below (inf false) p = absurd (subst T (sym p) tt)
below (fin true m e) p = refl
below (fin false m e) p = absurd (none (m * up e * 1) (down e) (ltb→lt (m * up e * 1) (0 * 1 * down e) (subst T (sym p) tt)))
  where
    none : (a d : ℕ) → a < 0 * 1 * d → ⊥
    none a d h = omega arith

no_exponent : (e : ℤ) → up e * down e ≡ 1 → e ≡ pos 0
no_exponent (pos zero) h = refl
no_exponent (pos (suc k)) h = absurd (two-of (2 ^ k) (pow_pos k) (ap (λ (n : ℕ). n * 1) (sym (pow-suc 2 k)) ∙ h))
  where
    two-of : (a : ℕ) → 0 < a → a * 2 * 1 ≡ 1 → ⊥
    two-of a p q = omega arith
no_exponent (negsuc k) h = absurd (two-of (2 ^ k) (pow_pos k) (ap (λ (n : ℕ). 1 * n) (sym (pow-suc 2 k)) ∙ h))
  where
    two-of : (a : ℕ) → 0 < a → 1 * (a * 2) ≡ 1 → ⊥
    two-of a p q = omega arith

pub zero_is : (x : Float) → T (fits binary64 x) → eq x nil ≡ true → nil ≡ abs_of x
unfolding eq abs_of fits
zero_is nan h p = absurd (subst T (sym p) tt)
zero_is (inf s) h p = absurd (subst T (sym p) tt)
zero_is (fin s zero e) h p = ap (fin false 0) (sym (no_exponent e (eqb→eq (up e * down e) 1 h)))
zero_is (fin s (suc m) e) h p = absurd (some m e (eqb→eq (suc m * up e * 1) (0 * 1 * down e) (and_l (eqb (suc m * up e * 1) (0 * 1 * down e)) (beq s false || eqb (suc m * up e * 1) 0) (subst T (sym p) tt))))

pub over : (x : Float) → lt x nil ≡ false → eq x nil ≡ false → x ≡ abs_of x
unfolding lt eq abs_of
over nan p q = refl
over (inf true) p q = absurd (subst T p tt)
over (inf false) p q = refl
over (fin true zero e) p q = absurd (subst T q (level_zero true e))
over (fin true (suc m) e) p q = absurd (subst T p (lt→ltb 0 (suc m * up e * 1 + 0 * 1 * down e) (omega (arith, mul-pos (zero-lt-suc m) (up_pos e)))))
over (fin false m e) p q = refl
