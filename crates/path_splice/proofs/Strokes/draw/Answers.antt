-- `draw` meets its contract.
use native.Mathlib.Omega.{arith}
use Prim.Native.Nat.{◌+◌, ◌-◌, ◌*◌}
use lib.ListN.{length}
use Rattle.path_splice.proofs.Answers.{out-points, out-starts, laid_out}
use Rattle.path_splice_links.proofs.Threads.{threads_woven}
use Rattle.path_splice.proofs.Strokes.draw.Goals as goal

pub read_out-requires : goal.read_out-requires
read_out-requires c =
    let w = threads_woven c.fill.new.s c.thread-c.new.s (length c.args.self.starts.now) c.thread-c.result (omega (arith, c.fill.auto.s, c.requires.2)) c.requires.1 c.thread-c.ensures.upper_bound c.thread-c.ensures.s_after in
    let a = out-points c.args.self.points.now c.args.self.starts.now c.args.self.good c.fill.new.s c.thread-c.new.s c.thread-c.result c.fill.ensures w (2 * length c.args.self.starts.now + c.thread-c.result - 2 * length c.args.self.starts.now) (omega arith) in
    let b = out-starts c.args.self.points.now c.args.self.starts.now c.args.self.good c.fill.new.s c.thread-c.new.s c.thread-c.result c.fill.ensures w (2 * length c.args.self.starts.now + c.thread-c.result - 2 * length c.args.self.starts.now) (omega arith) in
    (omega (arith, c.requires.3), omega (arith, c.requires.0), omega (arith, c.requires.4))

pub returns : goal.returns
returns c =
    let w = threads_woven c.fill.new.s c.thread-c.new.s (length c.args.self.starts.now) c.thread-c.result (omega (arith, c.fill.auto.s, c.requires.2)) c.requires.1 c.thread-c.ensures.upper_bound c.thread-c.ensures.s_after in
    laid_out c.args.self.points.now c.args.self.starts.now c.args.self.good c.fill.new.s c.thread-c.new.s c.thread-c.result c.fill.ensures w (2 * length c.args.self.starts.now + c.thread-c.result - 2 * length c.args.self.starts.now) (omega arith) c.args.out_points.now c.args.out_starts.now _ _ _ _ c.requires.3 c.requires.4 c.read_out.ensures
