use native.Mathlib.Omega.{arith}
use Rattle.sheet_list.proofs.Inks.{top-turn, top-end, top-all}
use Rattle.sheet_list.proofs.top.Goals as goal

pub returns-then-x-p-lt10 : goal.returns-then-x-p-lt10
returns-then-x-p-lt10 c = top-end c.loop.counter c.loop.p c.args.x _ (omega arith) c.if-x-p-lt10.true c.loop.invariant.1

pub loop-preserved : goal.loop-preserved
loop-preserved c = (omega arith, top-turn c.loop.counter c.loop.p c.args.x _ (omega arith) (omega arith) c.loop.invariant.1)

pub returns : goal.returns
returns c = top-all c.loop.counter c.loop.p c.args.x _ (omega arith) c.loop.invariant.1
