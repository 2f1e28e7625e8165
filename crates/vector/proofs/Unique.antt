-- What a contract permits is one answer: `one_answer` (refusal) where it is of the form `r ≡ d`; a `Result` and an `Option` are told by what is said of them.
use Rattle.std.proofs.Common.{◌≡◌}
use lib.Ieee.{Float}
use Rattle.refusal.specs.One.{One}
use Rattle.refusal.proofs.Unique.{one-value, one-option, one-read}
use Rattle.vector.specs.declared.Vector.{Vector}
use Rattle.std.specs.Prelude.{ℤ, Option, Result}
use Rattle.refusal.specs.declared.Refusal.{Refusal}
use Rattle.refusal.specs.Said.{value_said, option_said}
use Rattle.vector.specs.Floor.{floor_of}
use Rattle.vector.specs.Root.{root_of}
use Rattle.vector.specs.Lengths.{unit_of}

pub one-floor : (x : Float) → One (Result ℤ Refusal) (λ r. value_said r ≡ floor_of x)
one-floor x = one-read value_said one-value (floor_of x)

pub one-sqrt : (x : Float) → One (Result Float Refusal) (λ r. value_said r ≡ root_of x)
one-sqrt x = one-read value_said one-value (root_of x)

pub one-normalize : (v : Vector) → One (Option Vector) (λ r. option_said r ≡ unit_of v)
one-normalize v = one-read option_said one-option (unit_of v)
