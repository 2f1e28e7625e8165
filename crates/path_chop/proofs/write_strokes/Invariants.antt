-- `write_strokes` meets its contract. Pushing the strokes from the i-th on from here leaves what pushing all leaves.
use Rattle.path.specs.InnerPushes.{put_points, out, push_all}
use Rattle.path_chop.specs.Chop.{chopped_of}
use lib.ListN.{length, drop}
use Prim.Native.Nat.{◌≤◌}
use mathlib.Core.Path.{◌≡◌}
use Rattle.path_chop.proofs.write_strokes.Given as goal

abbrev pub invariant-loop-i : goal.invariant-loop-i
invariant-loop-i l = (l.p.starts ≤ l.i) × (length l.out_points ≡ length l.initial.out_points) × (length l.out_starts ≡ length l.initial.out_starts)
    × (push_all put_points (out l.out_points l.out_starts l.p) (chopped_of l.step l.points (drop l.i l.starts)) ≡ push_all put_points (out l.initial.out_points l.initial.out_starts l.initial.p) (chopped_of l.step l.points l.starts))
