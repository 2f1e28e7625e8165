-- `mixed_up` meets its contract. Of the first x points in the order no neighbours have one mix and are not the same.
use Rattle.std.proofs.Common.{◌≤◌}
use Rattle.path_classes.specs.InnerKeys.{Apart}
use Rattle.path_classes.proofs.mixed_up.Given as goal

abbrev pub invariant-loop-x : goal.invariant-loop-x
invariant-loop-x l = (1 ≤ l.x) × Apart l.points l.s l.m l.x
