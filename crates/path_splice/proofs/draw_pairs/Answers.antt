-- `draw_pairs` meets its contract.
use mathlib.Core.Path.{sym}
use Prim.Native.Nat.{◌*◌}
use native.Mathlib.Omega.{arith}
use lib.Seq.{length-take-le}
use Rattle.path_splice_links.proofs.Threads.{threads_woven}
use Rattle.path_splice.proofs.Pairs.{asks, gives}
use Rattle.path_splice.proofs.draw_pairs.Goals as goal

pub slice_bounds-strokes-end : goal.slice_bounds-strokes-end
slice_bounds-strokes-end c = sym (length-take-le (2 * c.args.n) c.thread-c.new.s (omega (arith, c.requires.0, c.thread-c.auto.s, c.fill_pairs.auto.s)))

pub invariant_of-strokes : goal.invariant_of-strokes
invariant_of-strokes c =
    let n = c.args.n in
    let W = threads_woven c.fill_pairs.new.s c.thread-c.new.s n c.thread-c.result (omega (arith, c.fill_pairs.auto.s, c.requires.0)) c.requires.1 c.thread-c.ensures.upper_bound c.thread-c.ensures.s_after in
    let r = asks c.args.s.now n c.thread-c.result c.requires.0 c.requires.1 c.fill_pairs.new.s c.fill_pairs.ensures c.thread-c.new.s c.thread-c.auto.s W c.args.out_points.now c.args.out_starts.now c.requires.2 c.requires.3 in
    record { good = r.good }

pub read_out-requires : goal.read_out-requires
read_out-requires c =
    let n = c.args.n in
    let W = threads_woven c.fill_pairs.new.s c.thread-c.new.s n c.thread-c.result (omega (arith, c.fill_pairs.auto.s, c.requires.0)) c.requires.1 c.thread-c.ensures.upper_bound c.thread-c.ensures.s_after in
    let r = asks c.args.s.now n c.thread-c.result c.requires.0 c.requires.1 c.fill_pairs.new.s c.fill_pairs.ensures c.thread-c.new.s c.thread-c.auto.s W c.args.out_points.now c.args.out_starts.now c.requires.2 c.requires.3 in
    (r.points, r.few, r.starts)

pub returns : goal.returns
returns c =
    let W = threads_woven c.fill_pairs.new.s c.thread-c.new.s c.args.n c.thread-c.result (omega (arith, c.fill_pairs.auto.s, c.requires.0)) c.requires.1 c.thread-c.ensures.upper_bound c.thread-c.ensures.s_after in
    gives c.args.s.now c.args.n c.thread-c.result c.requires.0 c.requires.1 c.fill_pairs.new.s c.fill_pairs.ensures c.thread-c.new.s c.thread-c.auto.s W c.args.out_points.now c.args.out_starts.now _ _ _ _ c.requires.2 c.requires.3 c.read_out.ensures
