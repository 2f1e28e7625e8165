-- `longest` meets its contract. The spans before j write at most what as many of the longest of them would
-- (`longest_turn`), whatever the step.
use Prim.Native.Nat.{◌+◌, ◌-◌, ◌*◌, ◌≤◌}
use lib.ListN.{length}
use lib.Ieee.{Float}
use Rattle.path.specs.Strokes.{point_at, gather}
use Rattle.path_chop.specs.Chop.{too_many, spans}
use Rattle.path_chop.proofs.Bounds.{reach, HasRoot}
use Rattle.path_chop.proofs.longest.Given as goal

abbrev pub invariant-loop-j : goal.invariant-loop-j
invariant-loop-j l = (l.i ≤ l.j) × (l.j - l.i ≤ l.e - l.i) × HasRoot l.most
    × ((step : Float) → length (spans too_many step l.initial.p (gather (point_at l.points) l.i (l.e - l.i))) ≤ (l.j - l.i) * (reach l.most step + 1) + length (spans too_many step l.p (gather (point_at l.points) l.j (l.e - l.j))))
