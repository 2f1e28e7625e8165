-- A magnitude within a bound, told by two comparisons.
use mathlib.Core.Path.{◌≡◌, refl, sym, subst}
use mathlib.Core.Bool.{Bool, true, false, not, ◌||◌, ◌&&◌}
use mathlib.Core.Logic.{⊎_elim}
use Prim.Native.Nat.{ℕ, ◌+◌, ◌*◌, ◌^◌, ◌≤◌, ◌<◌}
use native.Mathlib.Nat.{le_of_lt, eq-or-lt_of_le, mul-pos}
use native.Mathlib.Omega.{arith}
use lib.Dec.{T, ltb, eqb, ltb→lt, lt→ltb, nltb→le, eqb→eq, eqb_refl}
use lib.Arith.{le→nltb}
use lib.IntN.{pos}
use lib.Pow.{pow_pos}
use lib.Ieee.{Float, nan, inf, fin, up, down, lt, eq, le, neg}
use lib.Ieee.Bits.{is_true, is_false}
use lib.Ieee.Fits.{down_pos}
use Rattle.vector.specs.Abs.{abs_of}
use Rattle.path.specs.Tests.{within_of}
use Rattle.path.specs.InnerBounds.{Bound}

unlevel : (a b : ℕ) → b < a → eqb a b ≡ false
unlevel a b h = go (eqb a b) (eqb→eq a b)
  where
    go : (x : Bool) → (T x → a ≡ b) → x ≡ false
    go true f = absurd (omega (arith, f tt))
    go false f = refl

-- what is above b is not below it and not level with it
above : (a b : ℕ) → b < a → false ≡ ltb a b || (eqb a b && true)
above a b h = rw (is_false (ltb a b) (le→nltb a b (le_of_lt h)), unlevel a b h)

-- what is not above b is below it or level with it
not_above : (a b : ℕ) → a ≤ b → ltb a b || (eqb a b && true) ≡ true
not_above a b h = ⊎_elim (λ e. level e) (λ l. rw (is_true (ltb a b) (lt→ltb a b l))) (eq-or-lt_of_le h)
  where
    or-true : (x : Bool) → x || (true && true) ≡ true
    or-true true = refl
    or-true false = refl

    level : a ≡ b → ltb a b || (eqb a b && true) ≡ true
    level e = rw (e, is_true (eqb b b) (eqb_refl b)) (or-true (ltb b b))

-- ---- a power of two as the bound
module _ (k : ℕ) where
  abbrev Power : Float
  Power = fin false 1 (pos k)

  low_power : (x : Float) → lt x (neg Power) ≡ true → false ≡ within_of Power x
  unfolding neg lt eq le abs_of
  low_power nan h = absurd (subst T (sym h) tt)
  low_power (inf true) h = refl
  low_power (inf false) h = absurd (subst T (sym h) tt)
  low_power (fin false m e) h = absurd (subst T (sym h) tt)
  low_power (fin true m e) h = above (m * up e * 1) (1 * 2 ^ k * down e) (ltb→lt (1 * 2 ^ k * down e) (m * up e * 1) (subst T (sym h) tt))

  high_power : (x : Float) → lt x (neg Power) ≡ false → le x Power ≡ within_of Power x
  unfolding neg lt eq le abs_of
  high_power nan h = refl
  high_power (inf true) h = absurd (subst T h tt)
  high_power (inf false) h = refl
  high_power (fin false m e) h = refl
  high_power (fin true m e) h =
      let p : 0 < 1 * 2 ^ k * down e = mul-pos {m = 1 * 2 ^ k} (omega (arith, pow_pos k)) (down_pos e) in
      let s : 0 < m * up e * 1 + 1 * 2 ^ k * down e = omega arith in
      let l = nltb→le (1 * 2 ^ k * down e) (m * up e * 1) (subst (λ (b : Bool). T (not b)) (sym h) tt) in
      rw (is_true (ltb 0 (m * up e * 1 + 1 * 2 ^ k * down e)) (lt→ltb 0 (m * up e * 1 + 1 * 2 ^ k * down e) s)) (sym (not_above (m * up e * 1) (1 * 2 ^ k * down e) l))

module _ (most : Float) (B : Bound most) (x : Float) where
  pub too_low : lt x (neg most) ≡ true → false ≡ within_of most x
  too_low h = rw B.is (low_power B.power x (rw B.is at h))

  pub not_low : lt x (neg most) ≡ false → le x most ≡ within_of most x
  not_low h = rw B.is (high_power B.power x (rw B.is at h))
