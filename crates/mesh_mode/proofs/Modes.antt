-- The mode of a number, by the tests on it.
use mathlib.Core.Path.{◌≡◌, refl, sym}
use mathlib.Core.Bool.{Bool, true, false, cond}
use Prim.Native.Nat.{ℕ, zero, suc}
use lib.Ieee.{Float, eq}
use Rattle.refusal.specs.Said.{refused}
use Rattle.refusal.specs.declared.Refusal.{Refusal}
use Rattle.refusal.specs.declared.Refusal.TheVariants.{Number}
use Rattle.refusal.proofs.Unique.{one-refusal, never_both}
use Rattle.mesh_mode.specs.declared.Mode.{Mode}
use Rattle.mesh_mode.specs.Modes.{meant, mode_by, mode_of}

pub said : (n : ℕ) → (n ≡ 0 → ⊥) → n ≡ meant n
said zero h = absurd (h refl)
said (suc n) h = refl

pub no_mode : (n : ℕ) (c : Float) → (n ≡ 1 → ⊥) → (n ≡ 2 → ⊥) → (n ≡ 3 → ⊥) → refused Number ≡ mode_by n c
no_mode zero c p q r = refl
no_mode (suc zero) c p q r = absurd (p refl)
no_mode (suc (suc zero)) c p q r = absurd (q refl)
no_mode (suc (suc (suc zero))) c p q r = absurd (r refl)
no_mode (suc (suc (suc (suc n)))) c p q r = refl

-- a mode that is refused is refused for its number
refused-by : (n : ℕ) (c : Float) (w : Refusal) → refused w ≡ mode_by n c → w ≡ Number
refused-by zero c w e = one-refusal w Number e
refused-by (suc zero) c w e = absurd (never_both _ w (sym e))
refused-by (suc (suc zero)) c w e = absurd (never_both _ w (sym e))
refused-by (suc (suc (suc zero))) c w e = absurd (never_both _ w (sym e))
refused-by (suc (suc (suc (suc n)))) c w e = one-refusal w Number e

pub refused-number : (n : ℕ) (c : Float) (w : Refusal) → refused w ≡ mode_of n c → w ≡ Number
unfolding mode_of
refused-number n c w e = go (eq c c) e
  where
    go : (b : Bool) → refused {A = Mode} w ≡ cond b (mode_by (meant n) c) (refused Number) → w ≡ Number
    go true e = refused-by (meant n) c w e
    go false e = one-refusal w Number e
