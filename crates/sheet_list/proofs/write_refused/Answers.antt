-- `write_refused` meets its contract.
use Rattle.sheet_list.proofs.Inks.{refused-put}
use Rattle.sheet_list.proofs.write_refused.Goals as goal

pub returns : goal.returns
returns c = refused-put c.args.out.now c.args.n _ _ _ _ _ c.put_word.ensures c.put_word-2.ensures c.write_number-k.ensures.0 c.put_byte.ensures
