-- What each contract permits is one answer.
use mathlib.Core.Path.{◌≡◌}
use mathlib.Core.Bool.{Bool}
use Prim.Native.Nat.{ℕ}
use lib.Ieee.{Float}
use Rattle.refusal.specs.One.{One}
use Rattle.refusal.proofs.Unique.{one_answer}
use Rattle.single.specs.Singles.{is_single, value_of, pattern_of}

pub one_value : (p : ℕ) → One Float (λ r. r ≡ value_of p)
one_value p = one_answer (value_of p)

pub one-is_single : (x : Float) → One Bool (λ r. r ≡ is_single x)
one-is_single x = one_answer (is_single x)

pub one-pattern : (x : Float) → One ℕ (λ r. r ≡ pattern_of x)
one-pattern x = one_answer (pattern_of x)
