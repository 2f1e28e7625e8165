use borrow.Author.Tests.{le-leb, lt-leb}
use Rattle.sheet_salvage.proofs.lesser.Goals as goal

pub returns-then-x-y : goal.returns-then-x-y
returns-then-x-y c = rw (le-leb c.args.x c.args.y c.if-x-y.true)

pub returns : goal.returns
returns c = rw (lt-leb c.args.x c.args.y c.if-x-y.false)
