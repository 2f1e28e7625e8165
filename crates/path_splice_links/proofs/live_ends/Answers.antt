use native.Mathlib.Omega.{arith}
use Rattle.path_splice_links.proofs.Mirroring.{lives_none, lives-skip, lives-keep, lives_all}
use Rattle.path_splice_links.proofs.live_ends.Goals as goal

pub loop-e-init : goal.loop-e-init
loop-e-init c = (omega arith, lives_none c.args.s.now c.args.n c.requires.0)

pub loop-e-preserved-then-s-n-eq0 : goal.loop-e-preserved-then-s-n-eq0
loop-e-preserved-then-s-n-eq0 c = (omega arith, lives-skip c.args.s.now c.args.n c.requires.0 c.loop-e.s c.loop-e.e c.loop-e.k c.loop-e.invariant.1 (omega arith) (rw c.path_id-i.ensures at c.if-s-n-eq0.true))

pub loop-e-preserved : goal.loop-e-preserved
loop-e-preserved c = (omega arith, lives-keep c.args.s.now c.args.n c.requires.0 c.loop-e.s c.loop-e.e c.loop-e.k c.loop-e.invariant.1 (omega arith) (rw c.path_id-i.ensures at c.if-s-n-eq0.false))

pub returns : goal.returns
returns c = lives_all c.args.s.now c.args.n c.requires.0 c.loop-e.s c.loop-e.e c.loop-e.k (omega arith) c.loop-e.invariant.1
