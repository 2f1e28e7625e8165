-- Small facts on numbers that are tested for 0, and on ends.
use mathlib.Core.Path.{◌≡◌, refl}
use mathlib.Core.Bool.{true, false}
use mathlib.Core.Logic.{◌≢◌}
use Prim.Native.Nat.{ℕ, zero, suc, ◌+◌, ◌*◌, ◌/◌, ◌%◌, ◌<◌}
use native.Mathlib.Omega.{arith}
use Rattle.order.proofs.Tests.{clash}
use Rattle.path_splice_rule.specs.Splice.{is_zero, opposite}

pub zero_of : (n : ℕ) → is_zero n ≡ true → n ≡ 0
zero_of zero h = refl
zero_of (suc n) h = absurd (clash h refl)

pub is_zero_lem : (n : ℕ) → n ≡ 0 → is_zero n ≡ true
is_zero_lem zero h = refl
is_zero_lem (suc n) h = absurd (omega arith)

pub not_zero : (n : ℕ) → n ≢ 0 → is_zero n ≡ false
not_zero zero h = absurd (h refl)
not_zero (suc n) h = refl

pub nonzero_of : (n : ℕ) → is_zero n ≡ false → n ≢ 0
nonzero_of zero h = absurd (clash refl h)
nonzero_of (suc n) h = λ e. omega arith

-- ends
pub opp_stroke : (e : ℕ) → opposite e / 2 ≡ e / 2
opp_stroke e = omega arith

pub opp_ne : (e : ℕ) → opposite e ≢ e
opp_ne e = omega arith

pub opp_side : (e : ℕ) → opposite e % 2 + e % 2 ≡ 1
opp_side e = omega arith

-- the ends of one stroke are an end and its opposite
pub two_ends : (a e : ℕ) → a / 2 ≡ e / 2 → a ≢ opposite e → a ≡ e
two_ends a e h n = omega arith

pub opp_reach : (e m n : ℕ) → m ≡ 2 * n → e < m → opposite e < m
opp_reach e m n q h =
    let a : e / 2 < n = omega arith in
    let b : opposite e / 2 < n = rw opp_stroke a in
    omega arith
