-- `step_good` meets its contract.
use Rattle.path.specs.Tests.{step_good}
use Rattle.path.proofs.step_good.Goals as goal

pub returns-then-x : goal.returns-then-x
unfolding step_good
returns-then-x c = rw c.if-x.true

pub returns : goal.returns
unfolding step_good
returns c = rw c.if-x.false
