-- `lay` meets its contract. Putting the points of the places from the i-th on from here leaves what putting all leaves.
use mathlib.Core.Path.{◌≡◌}
use mathlib.Core.List.{map}
use Prim.Native.Nat.{◌+◌}
use lib.ListN.{length, take, drop}
use Rattle.path.specs.Strokes.{point_at}
use Rattle.path.specs.InnerPushes.{put_points}
use Rattle.path_simplify.proofs.lay.Given as goal

abbrev pub invariant-loop-i : goal.invariant-loop-i
invariant-loop-i l = (length l.out ≡ length l.initial.out)
    × (put_points l.out (l.at + l.i) (map (point_at l.points) (drop l.i (take l.kept.count l.kept.places))) ≡ put_points l.initial.out l.at (map (point_at l.points) (take l.kept.count l.kept.places)))
