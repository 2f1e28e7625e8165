-- `size_good` meets its contract.
use Rattle.path.specs.Tests.{size_good}
use Rattle.path.proofs.size_good.Goals as goal

pub returns-then-x : goal.returns-then-x
unfolding size_good
returns-then-x c = rw c.if-x.true

pub returns : goal.returns
unfolding size_good
returns c = rw c.if-x.false
