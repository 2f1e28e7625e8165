-- `link_ends` meets its contract.
use native.Mathlib.Omega.{arith}
use Prim.Native.Nat.{◌*◌}
use Rattle.path_splice_links.proofs.Mirroring.{count-le, size-3, ranked-3, linked-4}
use Rattle.order.proofs.Parts.{cleared}
use Rattle.path_splice_links.proofs.link_ends.Goals as goal

pub link_runs-requires : goal.link_runs-requires
link_runs-requires c =
    let n = c.args.n in
    let W = cleared c.sort_words.new.s (4 * n) (2 * n) (6 * n) (omega arith) (omega (arith, c.sort_words.auto.s, c.live_ends-c.auto.s, c.requires.0)) c.clear.new.s c.clear.ensures in record { n_in_bounds = (size-3 c.args.s.now n c.requires.0 c.requires.1 c.live_ends-c.new.s c.live_ends-c.result c.live_ends-c.ensures c.sort_words.new.s c.sort_words.ensures _ W, c.requires.1, count-le c.args.s.now n c.requires.0 c.requires.1 c.live_ends-c.new.s c.live_ends-c.result c.live_ends-c.ensures); ranked = ranked-3 c.args.s.now n c.requires.0 c.requires.1 c.live_ends-c.new.s c.live_ends-c.result c.live_ends-c.ensures c.sort_words.new.s c.sort_words.ensures _ W }

pub returns : goal.returns
returns c =
    let n = c.args.n in
    let W = cleared c.sort_words.new.s (4 * n) (2 * n) (6 * n) (omega arith) (omega (arith, c.sort_words.auto.s, c.live_ends-c.auto.s, c.requires.0)) c.clear.new.s c.clear.ensures in
    linked-4 c.args.s.now n c.requires.0 c.requires.1 c.live_ends-c.new.s c.live_ends-c.result c.live_ends-c.ensures c.sort_words.new.s c.sort_words.ensures _ W c.link_runs.new.s c.link_runs.ensures
