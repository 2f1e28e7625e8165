-- `write_listed` meets its contract: line one, and the lines of the strokes.
use native.Mathlib.Omega.{arith}
use Rattle.sheet_list.proofs.Lines.{listed-put, few_strokes}
use Rattle.sheet_list.proofs.write_listed.Goals as goal

pub write_strokes-requires : goal.write_strokes-requires
write_strokes-requires c =
    let f = few_strokes c.args.bytes.now c.requires in
    omega (arith, f, c.word_at-strokes.ensures, c.write_line-k.ensures.1)

pub returns : goal.returns
returns c = listed-put c.args.bytes.now c.args.out.now c.requires _ _ c.word_at-strokes.ensures c.word_at.ensures _ _ _ _ c.write_line-k.ensures.0 c.write_strokes.ensures
