-- `write_strokes` meets its contract. Pushing the strokes from the i-th on from here leaves what pushing all leaves,
-- and their distances and those measured are all.
use Rattle.path.specs.InnerPushes.{put_points, out, push_all}
use Rattle.path_simplify.specs.Simplify.{simplified, distances, simplified_of}
use Rattle.path_simplify.specs.InnerSquares.{places_in}
use lib.ListN.{length, drop}
use Prim.Native.Nat.{◌+◌, ◌≤◌}
use mathlib.Core.Path.{◌≡◌}
use Rattle.path_simplify.proofs.write_strokes.Given as goal

abbrev pub invariant-loop-i : goal.invariant-loop-i
invariant-loop-i l = (l.w.starts ≤ l.i) × (length l.out_points ≡ length l.initial.out_points) × (length l.out_starts ≡ length l.initial.out_starts)
    × (push_all put_points (out l.out_points l.out_starts (places_in l.w)) (simplified (simplified_of l.threshold l.points (drop l.i l.starts))) ≡ push_all put_points (out l.initial.out_points l.initial.out_starts (places_in l.initial.w)) (simplified (simplified_of l.threshold l.points l.starts)))
    × (l.w.distances + distances (simplified_of l.threshold l.points (drop l.i l.starts)) ≡ distances (simplified_of l.threshold l.points l.starts))
