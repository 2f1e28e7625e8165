-- `put_three` meets its contract.
use Rattle.stl.proofs.Puts.{three-put}
use Rattle.stl.proofs.put_three.Goals as goal

pub returns : goal.returns
returns c = three-put c.args.out.now c.args.i c.args.x c.args.y c.args.z _ _ _ c.put_word_from.ensures c.put_word_from-2.ensures c.put_word_from-3.ensures
