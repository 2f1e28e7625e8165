-- `count_steps` meets its contract. The steps counted and those from the distance d on are all steps.
use Rattle.path_chop.specs.Chop.{steps_of}
use lib.ListN.{length}
use Prim.Native.Nat.{◌+◌, ◌-◌}
use mathlib.Core.Path.{◌≡◌}
use Rattle.path_chop.proofs.count_steps.Given as goal

abbrev pub invariant-loop-n : goal.invariant-loop-n
invariant-loop-n l = (l.n + length (steps_of (l.most - l.n) l.l l.step l.d) ≡ length (steps_of l.most l.l l.step l.step))
