use native.Mathlib.Omega.{arith}
use Prim.Native.Nat.{ℕ, ◌+◌, ◌-◌, ◌*◌, ◌<◌}
use lib.ListN.{get_or}
use Rattle.path_splice_links.proofs.Mirroring.{mirrors_none, end_lt, mirrors-more, mirrors_all}
use Rattle.path_splice_links.proofs.mirror_run.Goals as goal

pub loop-x-init : goal.loop-x-init
loop-x-init c = (omega arith, mirrors_none c.args.s.now c.args.n c.args.c c.args.p c.args.q c.requires.n_in_bounds.0 c.requires.n_in_bounds.2 c.requires.n_in_bounds.4 c.requires.by_index c.requires.by_index_2)

pub word_of-requires : goal.word_of-requires
word_of-requires c = omega (arith, c.mirror_link-l.ensures.result_bound, c.requires.n_in_bounds.1, (let end_at : (y : ℕ) → y < c.args.c → get_or c.loop-x.s (2 * c.args.n + y) 0 < 2 * c.args.n = end_lt c.args.s.now c.args.n c.args.c c.args.p c.args.q c.requires.n_in_bounds.0 c.requires.n_in_bounds.2 c.requires.n_in_bounds.4 c.requires.by_index c.requires.by_index_2 c.loop-x.s c.loop-x.x c.loop-x.invariant.1 in end_at) (c.args.p + c.args.q - 1 - c.loop-x.x) (omega arith))

pub bounds-s-i : goal.bounds-s-i
bounds-s-i c = omega (arith, c.requires.n_in_bounds.0, (let end_at : (y : ℕ) → y < c.args.c → get_or c.loop-x.s (2 * c.args.n + y) 0 < 2 * c.args.n = end_lt c.args.s.now c.args.n c.args.c c.args.p c.args.q c.requires.n_in_bounds.0 c.requires.n_in_bounds.2 c.requires.n_in_bounds.4 c.requires.by_index c.requires.by_index_2 c.loop-x.s c.loop-x.x c.loop-x.invariant.1 in end_at) c.loop-x.x (omega arith))

pub loop-x-preserved : goal.loop-x-preserved
loop-x-preserved c = (omega (arith, c.loop-x.invariant.0), mirrors-more c.args.s.now c.args.n c.args.c c.args.p c.args.q c.requires.n_in_bounds.0 c.requires.n_in_bounds.2 c.requires.n_in_bounds.4 c.requires.by_index c.requires.by_index_2 c.loop-x.s c.loop-x.x c.loop-x.invariant.1 c.word_of.result c.loop-x.invariant.0 (omega arith) (rw c.word_of.ensures c.mirror_link-l.ensures.pair))

pub returns : goal.returns
returns c = mirrors_all c.args.s.now c.args.n c.args.c c.args.p c.args.q c.requires.n_in_bounds.0 c.requires.n_in_bounds.2 c.requires.n_in_bounds.4 c.requires.by_index c.requires.by_index_2 c.loop-x.s c.loop-x.x (omega (arith, c.loop-x.invariant.0)) c.loop-x.invariant.1
