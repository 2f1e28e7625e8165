use native.Mathlib.Omega.{arith}
use Rattle.path_splice_links.proofs.Threads.{passes_none, ready-more, passes-more, passes_all}
use Rattle.path_splice_links.proofs.walk_pass.Goals as goal

pub loop-i-init : goal.loop-i-init
loop-i-init c = passes_none c.args.s.now c.args.n c.args.at c.requires c.args.rings

pub visit-k-requires-clause-walkable : goal.visit-k-requires-clause-walkable
visit-k-requires-clause-walkable c = ready-more c.args.s.now c.args.n c.args.at c.requires c.args.rings c.loop-i.s c.loop-i.i c.loop-i.k c.loop-i.invariant

pub loop-i-preserved : goal.loop-i-preserved
loop-i-preserved c = passes-more c.args.s.now c.args.n c.args.at c.requires c.args.rings c.loop-i.s c.loop-i.i c.loop-i.k c.loop-i.invariant (omega arith) c.visit-k.new.s c.visit-k.result c.visit-k.ensures

pub returns : goal.returns
returns c = passes_all c.args.s.now c.args.n c.args.at c.requires c.args.rings c.loop-i.s c.loop-i.i c.loop-i.k (omega arith) c.loop-i.invariant
