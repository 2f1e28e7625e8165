-- `find_far` meets its contract. The records so far (`Rising`) tell the farthest point before i, and with the points
-- from i on they give what all give.
use Rattle.vector.specs.Lengths.{zero64}
use Rattle.path_simplify.specs.InnerSquares.{far_of, settled_of, Rising}
use Rattle.path.specs.Strokes.{point_at}
use Rattle.path_simplify.specs.Simplify.{far_from}
use Prim.Native.Nat.{◌+◌, ◌-◌}
use mathlib.Core.Path.{◌≡◌}
use Rattle.path_simplify.proofs.find_far.Given as goal

abbrev pub invariant-loop-i : goal.invariant-loop-i
invariant-loop-i l = (far_from (point_at l.points) l.a l.b (far_of (settled_of l.best)) l.i (l.hi - l.i) ≡ far_from (point_at l.points) l.a l.b (record { at = l.lo; far = zero64 }) (l.lo + 1) (l.hi - (l.lo + 1))) × Rising l.best
