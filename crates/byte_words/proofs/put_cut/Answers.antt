-- `put_cut` meets its contract.
use Rattle.byte_words.proofs.Words.{four_le}
use Rattle.byte_words.proofs.put_cut.Goals as goal

pub returns : goal.returns
returns c = rw (c.put_byte-4.ensures, c.put_byte-3.ensures, c.put_byte-2.ensures, c.put_byte.ensures) (four_le c.args.out.now c.args.i c.args.w _ c.to_le_bytes-b.ensures)
