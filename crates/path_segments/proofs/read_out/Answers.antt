use native.Mathlib.Omega.{arith}
use Rattle.path.proofs.Points.{points_lie}
use Rattle.path_splice.proofs.Readings.{mark-room, reading-more, read_all}
use Rattle.path_segments.specs.Join.{segments_in}
use Rattle.path_segments.proofs.read_out.Goals as goal

pub loop-x-preserved : goal.loop-x-preserved
loop-x-preserved c =
    let a = mark-room points_lie (segments_in c.args.points.now c.args.n) c.args.order.now c.args.out_points.now c.args.out_starts.now c.loop-x.out_points c.loop-x.out_starts c.loop-x.p c.loop-x.q c.loop-x.x-index c.loop-x.invariant (omega arith) in
    reading-more points_lie (segments_in c.args.points.now c.args.n) c.args.order.now c.args.out_points.now c.args.out_starts.now c.loop-x.out_points c.loop-x.out_starts c.loop-x.p c.loop-x.q c.loop-x.x-index c.loop-x.invariant (omega arith) _ _ c.read_entry-p.result c.put_mark-q.result c.read_entry-p.ensures.0 c.read_entry-p.ensures.1 c.put_mark-q.ensures.0 (omega (arith, a, c.requires, c.put_mark-q.ensures.1))

pub returns : goal.returns
returns c = read_all points_lie (segments_in c.args.points.now c.args.n) c.args.order.now c.args.out_points.now c.args.out_starts.now c.loop-x.out_points c.loop-x.out_starts c.loop-x.p c.loop-x.q c.loop-x.x-index c.loop-x.invariant (omega arith)
