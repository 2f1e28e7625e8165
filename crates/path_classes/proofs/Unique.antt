-- What the contract of `number_points` permits is one outcome: every word of scratch.
use Rattle.std.proofs.Common.{◌≡◌, ℕ, List}
use lib.Ieee.{Float}
use Rattle.refusal.specs.One.{One}
use Rattle.refusal.proofs.Unique.{one_answer}
use Rattle.path_classes.specs.Classes.{numbered}

pub one-numbering : (ps : List Float) (m : ℕ) (s : List ℕ) → One (List ℕ) (λ t. t ≡ numbered ps m s)
one-numbering ps m s = one_answer (numbered ps m s)
