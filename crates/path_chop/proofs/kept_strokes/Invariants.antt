-- `kept_strokes` meets its contract. Those counted and those that are not empty from the j-th on are all that are not
-- empty.
use mathlib.Core.Path.{◌≡◌}
use Prim.Native.Nat.{◌+◌, ◌≤◌}
use lib.ListN.{length, drop}
use lib.Ieee.{Float}
use Rattle.path.specs.Laid.{non_empty}
use Rattle.path_chop.specs.Chop.{chopped_of}
use Rattle.path_chop.proofs.kept_strokes.Given as goal

abbrev pub invariant-loop-j : goal.invariant-loop-j
invariant-loop-j l = (l.k ≤ l.j) × ((step : Float) → l.k + length (non_empty (chopped_of step l.points (drop l.j l.starts))) ≡ length (non_empty (chopped_of step l.points l.starts)))
