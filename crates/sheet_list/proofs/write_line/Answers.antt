-- `write_line` meets its contract.
use native.Mathlib.Omega.{arith}
use Rattle.sheet.specs.Sheets.{word_at}
use Rattle.sheet_list.proofs.Inks.{line-none, line-some}
use Rattle.sheet_list.proofs.write_line.Goals as goal

pub returns-then-e-a : goal.returns-then-e-a
returns-then-e-a c = (line-none (word_at c.args.bytes.now) c.args.out.now c.args.k c.args.a c.args.e c.if-e-a.true _ c.put_byte.ensures, omega arith)

pub returns : goal.returns
returns c = (line-some (word_at c.args.bytes.now) c.args.out.now c.args.k c.args.a c.args.e c.if-e-a.false _ c.word_at.ensures _ _ _ _ _ c.write_number-i.ensures.0 c.write_more-j.ensures.0 c.put_byte-2.ensures, omega (arith, c.write_number-i.ensures.1, c.write_more-j.ensures.1, c.requires))
