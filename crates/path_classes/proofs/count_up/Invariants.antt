-- `count_up` meets its contract. The first e numbers are written, and no word before them or after their places is
-- changed.
use Rattle.std.proofs.Common.{◌*◌}
use Rattle.path_classes.specs.InnerKeys.{Aside, Stored}
use Rattle.path_classes.proofs.count_up.Given as goal

abbrev pub invariant-loop-e : goal.invariant-loop-e
invariant-loop-e l = Aside l.initial.s l.s l.m (2 * l.m) × Stored (λ i. i) l.s l.m l.e
