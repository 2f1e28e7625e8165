use native.Mathlib.Omega.{arith}
use Rattle.path.specs.Strokes.{strokes_in}
use Rattle.path_splice.proofs.Readings.{words_lie, point-room, mark-room, reading-more, read_all}
use Rattle.path_splice.proofs.Strokes.read_out.Goals as goal

pub read_entry-p-requires : goal.read_entry-p-requires
read_entry-p-requires c =
    let b = point-room words_lie (strokes_in c.args.self.points.now c.args.self.starts.now) c.args.order.now c.args.out_points.now c.args.out_starts.now c.loop-x.out_points c.loop-x.out_starts c.loop-x.p c.loop-x.q c.loop-x.x-index c.loop-x.invariant (omega arith) in
    omega (arith, c.requires)

pub loop-x-preserved : goal.loop-x-preserved
loop-x-preserved c =
    let a = mark-room words_lie (strokes_in c.args.self.points.now c.args.self.starts.now) c.args.order.now c.args.out_points.now c.args.out_starts.now c.loop-x.out_points c.loop-x.out_starts c.loop-x.p c.loop-x.q c.loop-x.x-index c.loop-x.invariant (omega arith) in
    reading-more words_lie (strokes_in c.args.self.points.now c.args.self.starts.now) c.args.order.now c.args.out_points.now c.args.out_starts.now c.loop-x.out_points c.loop-x.out_starts c.loop-x.p c.loop-x.q c.loop-x.x-index c.loop-x.invariant (omega arith) _ _ c.read_entry-p.result c.put_mark-q.result c.read_entry-p.ensures.0 c.read_entry-p.ensures.1 c.put_mark-q.ensures.0 (omega (arith, a, c.requires, c.put_mark-q.ensures.1))

pub returns : goal.returns
returns c = read_all words_lie (strokes_in c.args.self.points.now c.args.self.starts.now) c.args.order.now c.args.out_points.now c.args.out_starts.now c.loop-x.out_points c.loop-x.out_starts c.loop-x.p c.loop-x.q c.loop-x.x-index c.loop-x.invariant (omega arith)
