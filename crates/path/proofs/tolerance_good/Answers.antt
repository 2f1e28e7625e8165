-- `tolerance_good` meets its contract.
use Rattle.path.specs.Tests.{tolerance_good}
use Rattle.path.proofs.tolerance_good.Goals as goal

pub returns-then-x : goal.returns-then-x
unfolding tolerance_good
returns-then-x c = rw c.if-x.true

pub returns : goal.returns
unfolding tolerance_good
returns c = rw c.if-x.false
