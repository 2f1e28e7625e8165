-- `write_strokes` meets its contract. Pushing the strokes from the i-th on from here leaves what pushing all leaves,
-- none of them ends too deep, and their halvings and those made are all.
use Rattle.path.specs.InnerPushes.{put_points, out, push_all}
use Rattle.path_adaptive.specs.InnerWrite.{places_in}
use Rattle.path_adaptive.specs.Walk.{walks_of, adapted, halvings_of}
use Rattle.path_adaptive.specs.InnerWrite.{Calm}
use lib.ListN.{length, drop}
use Prim.Native.Nat.{◌+◌, ◌≤◌}
use mathlib.Core.Path.{◌≡◌}
use Rattle.path_adaptive.proofs.write.write_strokes.Given as goal

abbrev pub invariant-loop-i : goal.invariant-loop-i
invariant-loop-i l = (l.w.starts ≤ l.i) × (length l.out_points ≡ length l.initial.out_points) × (length l.out_starts ≡ length l.initial.out_starts)
    × (push_all put_points (out l.out_points l.out_starts (places_in l.w)) (adapted (walks_of l.view l.points (drop l.i l.starts))) ≡ push_all put_points (out l.initial.out_points l.initial.out_starts (places_in l.initial.w)) (adapted (walks_of l.view l.points l.starts)))
    × Calm (walks_of l.view l.points (drop l.i l.starts))
    × (l.w.halvings + halvings_of (walks_of l.view l.points (drop l.i l.starts)) ≡ halvings_of (walks_of l.view l.points l.starts))
