-- `fill_keys` meets its contract. The keys of the first e points are written, and no other word but theirs is changed.
use Rattle.path_classes.specs.InnerKeys.{Keys}
use Rattle.path_classes.proofs.fill_keys.Given as goal

abbrev pub invariant-loop-e : goal.invariant-loop-e
invariant-loop-e l = Keys l.points l.initial.s l.s l.m l.e
