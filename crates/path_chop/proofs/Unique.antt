-- What chop's contract permits is one outcome: the answer and every element of both lists.
use mathlib.Core.Path.{◌≡◌}
use mathlib.Core.List.{List}
use Prim.Native.Nat.{ℕ}
use lib.Ieee.{Float}
use Rattle.refusal.specs.One.{One}
use Rattle.path.specs.Call.{left, placed_said}
use Rattle.path.proofs.Calls.{one_left, one-place}
use Rattle.path.specs.declared.Place.{Place}
use Rattle.refusal.specs.declared.Refusal.{Refusal}
use Rattle.std.specs.Prelude.{Result}
use Rattle.path_chop.specs.Call.{chop_left}

pub one-chop : (ps : List Float) (ss : List ℕ) (step : Float) (op : List Float) (os : List ℕ)
    → One (Result Place Refusal × List Float × List ℕ) (λ o. left (placed_said o.0) o.1 o.2 ≡ chop_left ps ss step op os)
one-chop ps ss step op os = one_left placed_said one-place (chop_left ps ss step op os)
