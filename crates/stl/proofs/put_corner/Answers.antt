-- `put_corner` meets its contract.
use Rattle.stl.proofs.Puts.{corner_put}
use Rattle.stl.proofs.put_corner.Goals as goal

pub returns : goal.returns
returns c = corner_put c.args.out.now _ c.args.i c.args.v _ _ _ c.pattern.ensures c.pattern-2.ensures c.pattern-3.ensures c.put_three.ensures
