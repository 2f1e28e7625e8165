use borrow.Author.Rules.{rules}
use Rattle.path_chop.proofs.Chops.{steps_more, steps_stop, steps_none}
use lib.ListN.{length}
use native.Mathlib.Omega.{arith}
use mathlib.Core.Path.{ap}
use Rattle.path_chop.proofs.count_steps.Goals as goal

pub loop-n-preserved : goal.loop-n-preserved
loop-n-preserved c = omega (arith, ap length (steps_more c.loop-n.n c.args.most c.args.l c.args.step c.loop-n.d (search rules) (search rules)))

pub returns-else-d-l : goal.returns-else-d-l
returns-else-d-l c = omega (arith, ap length (steps_stop c.loop-n.n c.args.most c.args.l c.args.step c.loop-n.d (search rules)))

pub returns : goal.returns
returns c = omega (arith, ap length (steps_none c.loop-n.n c.args.most c.args.l c.args.step c.loop-n.d (search rules)))
