-- `table_good` meets its contract.
use native.Mathlib.Omega.{arith}
use mathlib.Core.Path.{sym, ◌∙◌}
use Rattle.sheet.specs.Sheets.{word_at}
use Rattle.sheet_read.proofs.Loops.{table_none, table_first, table_past, table_more}
use Rattle.sheet_read.proofs.table_good.Goals as goal

pub returns-then-strokes-eq0 : goal.returns-then-strokes-eq0
returns-then-strokes-eq0 c = sym (table_none (word_at c.args.bytes.now) c.args.n c.args.strokes 0 c.if-strokes-eq0.true)

pub returns-then-s-ne0 : goal.returns-then-s-ne0
returns-then-s-ne0 c = sym (table_first (word_at c.args.bytes.now) c.args.n c.args.strokes _ c.if-strokes-eq0.false c.word_at-s.ensures c.if-s-ne0.true)

pub returns-then-n-s : goal.returns-then-n-s
returns-then-n-s c = sym (table_past (word_at c.args.bytes.now) c.args.n c.args.strokes _ c.if-strokes-eq0.false c.word_at-s.ensures c.if-s-ne0.false (omega arith))

pub returns : goal.returns
returns c = c.strict_from.ensures ∙ table_more (word_at c.args.bytes.now) c.args.n c.args.strokes _ c.if-strokes-eq0.false c.word_at-s.ensures c.if-s-ne0.false (omega arith)
