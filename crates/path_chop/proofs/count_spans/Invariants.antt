-- `count_spans` meets its contract. The points counted and those of the spans from place j on are those of all, but for
-- what passes the limit.
use Rattle.path.specs.Strokes.{point_at, gather}
use Rattle.path_chop.specs.Chop.{too_many, spans}
use Rattle.path_chop.specs.InnerCounts.{capped}
use lib.ListN.{length}
use Prim.Native.Nat.{◌+◌, ◌-◌, ◌≤◌}
use mathlib.Core.Path.{◌≡◌}
use Rattle.path_chop.proofs.count_spans.Given as goal

abbrev pub invariant-loop-j : goal.invariant-loop-j
invariant-loop-j l = (l.n ≤ too_many + 1) × (capped (l.n + length (spans too_many l.step l.p (gather (point_at l.points) l.j (l.e - l.j)))) ≡ capped (l.so_far + length (spans too_many l.step l.initial.p (gather (point_at l.points) l.i (l.e - l.i)))))
