-- `start_at` meets its contract.
use mathlib.Core.Path.{◌∙◌}
use native.Mathlib.Omega.{arith}
use Rattle.sheet.specs.Sheets.{header_words, word_at}
use Rattle.path.proofs.Gathers.{gather-at}
use Rattle.sheet_list.proofs.Inks.{start_past}
use Rattle.sheet_list.proofs.start_at.Goals as goal

pub returns-then-i-strokes : goal.returns-then-i-strokes
returns-then-i-strokes c = (c.word_at.ensures ∙ gather-at (word_at c.args.bytes.now) header_words c.args.strokes c.args.i c.args.points c.if-i-strokes.true, omega arith)

pub returns : goal.returns
returns c = (start_past (word_at c.args.bytes.now) header_words c.args.strokes c.args.i c.args.points c.if-i-strokes.false, omega arith)
