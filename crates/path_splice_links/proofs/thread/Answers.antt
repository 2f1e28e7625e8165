-- `thread` meets its contract.
use native.Mathlib.Omega.{arith}
use mathlib.Core.Path.{refl}
use Prim.Native.Nat.{◌*◌, ◌≤◌}
use lib.ListN.{length}
use Rattle.path_splice_links.proofs.Threads.{thread_many, thread_short, thread_yes, all_woven}
use Rattle.path_splice_links.proofs.thread.Goals as goal

pub returns-then-n-gt-MOST_STROKES : goal.returns-then-n-gt-MOST_STROKES
returns-then-n-gt-MOST_STROKES c = record { s_after = thread_many c.args.s.now c.args.n c.if-n-gt-MOST_STROKES.true; upper_bound = omega arith }

pub returns-then-s-n : goal.returns-then-s-n
returns-then-s-n c = record { s_after = thread_short c.args.s.now c.args.n c.if-n-gt-MOST_STROKES.false c.if-s-n.true; upper_bound = omega arith }

pub returns : goal.returns
returns c =
    let n = c.args.n in
    let s = c.args.s.now in
    let h : 7 * n ≤ length s = c.if-s-n.false in record {
      s_after = thread_yes s n h c.link_and_walk-c.new.s c.link_and_walk-c.auto.s c.link_and_walk-c.result c.link_and_walk-c.ensures c.if-n-gt-MOST_STROKES.false _
          (all_woven s n h c.link_and_walk-c.new.s c.link_and_walk-c.auto.s c.link_and_walk-c.result c.link_and_walk-c.ensures _ refl c.clear.new.s c.clear.ensures);
      upper_bound = c.link_and_walk-c.ensures.few;
    }
