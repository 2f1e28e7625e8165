-- `within` meets its contract.
use Rattle.path.proofs.Bounds.{too_low, not_low}
use Rattle.path.proofs.within.Goals as goal

pub returns-then-x-most : goal.returns-then-x-most
returns-then-x-most c = too_low c.args.most c.requires c.args.x c.if-x-most.true

pub returns : goal.returns
returns c = not_low c.args.most c.requires c.args.x c.if-x-most.false
