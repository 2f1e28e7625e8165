-- `write_steps` meets its contract. Writing the points from the distance d on from here leaves what writing all leaves;
-- the steps that may still be made fall.
use mathlib.Core.List.{map}
use Rattle.path.specs.InnerPushes.{put_points}
use Rattle.path.specs.Courses.{course, advanced}
use Rattle.path_chop.specs.Chop.{too_many, along, steps_of}
use lib.ListN.{length}
use Prim.Native.Nat.{◌-◌, ◌≤◌}
use mathlib.Core.Path.{◌≡◌}
use Rattle.path_chop.proofs.write_steps.Given as goal

abbrev pub invariant-loop-n : goal.invariant-loop-n
invariant-loop-n l = (l.n ≤ too_many) × (length l.out ≡ length l.initial.out) × (advanced put_points (course l.out l.o) (map (along l.a l.v l.l) (steps_of (too_many - l.n) l.l l.step l.d)) ≡ advanced put_points (course l.initial.out l.at) (map (along l.a l.v l.l) (steps_of too_many l.l l.step l.step)))

abbrev pub decreases-loop-n : goal.decreases-loop-n
decreases-loop-n l = too_many - l.n
