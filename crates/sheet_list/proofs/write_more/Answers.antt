use native.Mathlib.Omega.{arith}
use Rattle.sheet.specs.Sheets.{word_at}
use Rattle.sheet_list.proofs.Inks.{space_turn, space_end}
use Rattle.sheet_list.proofs.write_more.Goals as goal

pub loop-i-preserved : goal.loop-i-preserved
loop-i-preserved c = (omega (arith, c.loop-i.invariant.0), omega (arith, c.write_number-at.ensures.1, c.loop-i.invariant.0, c.loop-i.invariant.1), space_turn (word_at c.args.bytes.now) c.loop-i.out c.loop-i.at c.loop-i.i c.args.e c.loop-i.invariant.2 (omega arith) _ _ _ _ c.put_byte.ensures c.word_at.ensures c.write_number-at.ensures.0)

pub returns : goal.returns
returns c = (space_end (word_at c.args.bytes.now) c.loop-i.out c.loop-i.at c.loop-i.i c.args.e c.loop-i.invariant.2 (omega arith), omega (arith, c.loop-i.invariant.0, c.loop-i.invariant.1))
