-- `recursive_subdivide` and `halve`, which call each other: the depth falls at each halving, and between two halvings the span is
-- tested, so the measure is twice the depth, and one more at the test.
use Rattle.std.proofs.Common.{◌+◌, ◌*◌}
use Rattle.path_adaptive.proofs.measure.+halve_recursive_subdivide.Given as goal

abbrev pub decreases-halve : goal.decreases-halve
decreases-halve l = 2 * l.depth

abbrev pub decreases-recursive_subdivide : goal.decreases-recursive_subdivide
decreases-recursive_subdivide l = 2 * l.depth + 1
