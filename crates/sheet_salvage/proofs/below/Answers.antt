use lib.Dec.{ltb}
use borrow.Author.Tests.{lt-ltb, le-ltb}
use Rattle.sheet_salvage.proofs.Points.{bit_few}
use Rattle.sheet_salvage.proofs.below.Goals as goal

pub returns-then-x-y : goal.returns-then-x-y
returns-then-x-y c = bit_few (ltb c.args.x c.args.y) _ (rw (lt-ltb c.args.x c.args.y c.if-x-y.true))

pub returns : goal.returns
returns c = bit_few (ltb c.args.x c.args.y) _ (rw (le-ltb c.args.x c.args.y c.if-x-y.false))
