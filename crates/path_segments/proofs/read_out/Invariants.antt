-- `read_out` meets its contract. Reading the ends from the j-th on from here leaves what reading all leaves, points and
-- starts (`Reading`).
use Rattle.path.specs.InnerPushes.{put_points}
use Rattle.path_splice.proofs.Readings.{Reading}
use Rattle.path_segments.specs.Join.{segments_in}
use Rattle.path_segments.proofs.read_out.Given as goal

abbrev pub invariant-loop-x : goal.invariant-loop-x
invariant-loop-x l = Reading put_points (segments_in l.points l.n) l.order l.initial.out_points l.initial.out_starts l.out_points l.out_starts l.p l.q l.x-index
