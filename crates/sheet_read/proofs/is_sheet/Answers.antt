-- `is_sheet` meets its contract: header, starts and numbers.
use mathlib.Core.Path.{sym, ◌∙◌}
use native.Mathlib.Omega.{arith}
use Rattle.sheet.specs.Sheets.{is_sheet}
use Rattle.sheet_read.proofs.Calls.{header_limits, table_is, below-is}
use Rattle.sheet_read.proofs.is_sheet.Goals as goal

pub returns-then-not-header_good : goal.returns-then-not-header_good
unfolding is_sheet
returns-then-not-header_good c = rw (sym c.header_good.ensures ∙ c.if-not-header_good.true)

pub table_good-requires : goal.table_good-requires
table_good-requires c =
    let h = header_limits c.args.bytes.now (sym c.header_good.ensures ∙ c.if-not-header_good.false) in
    omega (arith, c.word_at-strokes.ensures)

pub returns-then-not-table_good : goal.returns-then-not-table_good
unfolding is_sheet
returns-then-not-table_good c = rw (sym c.header_good.ensures ∙ c.if-not-header_good.false, sym (table_is c.args.bytes.now _ _ c.word_at-strokes.ensures c.word_at-n.ensures) ∙ sym c.table_good.ensures ∙ c.if-not-table_good.true)

pub returns : goal.returns
unfolding is_sheet
returns c =
    let bs = c.args.bytes.now in
    let s = c.word_at-strokes.ensures in
    let n = c.word_at-n.ensures in
    rw (sym c.header_good.ensures ∙ c.if-not-header_good.false, sym (table_is bs _ _ s n) ∙ sym c.table_good.ensures ∙ c.if-not-table_good.false)
    (c.words_below.ensures ∙ below-is bs _ _ s n _ _ c.numbers_from-a.ensures c.word_at.ensures)
