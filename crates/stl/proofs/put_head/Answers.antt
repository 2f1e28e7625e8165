-- `put_head` meets its contract.
use Rattle.stl.proofs.Puts.{head_put}
use Rattle.stl.proofs.put_head.Goals as goal

pub returns : goal.returns
returns c = head_put c.args.out.now _ _ c.args.faces c.clear_header.ensures c.put_word_from.ensures
