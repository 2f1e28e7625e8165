-- `read_out` meets its contract. Reading the ends from the j-th on from here leaves what reading all leaves, points and
-- starts (`Reading`).
use Rattle.order.specs.Regions.{put}
use Rattle.path.specs.Strokes.{strokes_in}
use Rattle.path_splice.proofs.Readings.{Reading}
use Rattle.path_splice.proofs.Strokes.read_out.Given as goal

abbrev pub invariant-loop-x : goal.invariant-loop-x
invariant-loop-x l = Reading put (strokes_in l.self.points.now l.self.starts.now) l.order l.initial.out_points l.initial.out_starts l.out_points l.out_starts l.p l.q l.x-index
