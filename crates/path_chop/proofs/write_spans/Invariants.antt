-- `write_spans` meets its contract. Writing the spans from place j on from here leaves what writing all leaves, and v
-- and l are those of the span that comes next.
use Rattle.vector.specs.Vectors.{sub_of}
use Rattle.vector.specs.Lengths.{length_of}
use Rattle.path.specs.Strokes.{point_at, gather}
use Rattle.path.specs.InnerPushes.{put_points}
use Rattle.path.specs.Courses.{course, advanced}
use Rattle.path_chop.specs.Chop.{too_many, spans}
use Rattle.path_chop.specs.InnerCounts.{length_or_step}
use lib.ListN.{length}
use Prim.Native.Nat.{◌-◌}
use mathlib.Core.Path.{◌≡◌}
use Rattle.path_chop.proofs.write_spans.Given as goal

abbrev pub invariant-loop-j : goal.invariant-loop-j
invariant-loop-j l = (length l.out ≡ length l.initial.out) × (advanced put_points (course l.out l.o) (spans too_many l.step l.p (gather (point_at l.points) l.j (l.e - l.j))) ≡ advanced put_points (course l.initial.out l.at) (spans too_many l.step l.initial.p (gather (point_at l.points) l.i (l.e - l.i))))
    × (l.v ≡ sub_of (point_at l.points l.j) l.p) × (l.l ≡ length_or_step l.step (length_of l.v))
