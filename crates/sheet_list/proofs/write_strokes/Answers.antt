use native.Mathlib.Omega.{arith}
use Rattle.path.specs.Strokes.{gather}
use Rattle.path.proofs.Gathers.{length-gather}
use Rattle.sheet.specs.Sheets.{header_words, word_at}
use Rattle.sheet_list.specs.InnerLines.{number_in}
use Rattle.sheet_list.proofs.Lines.{stroke_turn, stroke_end}
use Rattle.sheet_list.proofs.write_strokes.Goals as goal

pub loop-i-preserved : goal.loop-i-preserved
loop-i-preserved c =
    (omega (arith, c.write_stroke-at.ensures.1, c.loop-i.invariant.0), stroke_turn (number_in c.args.bytes.now c.args.strokes) c.args.points (gather (word_at c.args.bytes.now) header_words c.args.strokes) c.loop-i.out c.loop-i.at c.loop-i.i c.loop-i.invariant.1 (omega (arith, length-gather (word_at c.args.bytes.now) header_words c.args.strokes)) _ _ c.write_stroke-at.ensures.0)

pub returns : goal.returns
returns c = stroke_end (number_in c.args.bytes.now c.args.strokes) c.args.points (gather (word_at c.args.bytes.now) header_words c.args.strokes) c.loop-i.out c.loop-i.at c.loop-i.i c.loop-i.invariant.1 (omega (arith, length-gather (word_at c.args.bytes.now) header_words c.args.strokes))
