-- `fill_words` meets its contract. The words of the first e points are written, and no other word but theirs is changed.
use Rattle.std.proofs.Common.{◌*◌}
use Rattle.path.specs.Strokes.{point_at}
use Rattle.path_classes.specs.InnerKeys.{word_of, Aside, Stored}
use Rattle.path_classes.proofs.fill_words.Given as goal

abbrev pub invariant-loop-e : goal.invariant-loop-e
invariant-loop-e l = Aside l.initial.s l.s (3 * l.m) (4 * l.m) × Stored (λ i. word_of (point_at l.points i) l.j) l.s (3 * l.m) l.e
