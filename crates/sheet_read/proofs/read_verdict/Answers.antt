-- `read_verdict` meets its contract: 9 before 6.
use mathlib.Core.Path.{sym, ◌∙◌}
use Rattle.refusal.specs.Refusals.{unless}
use Rattle.sheet_read.specs.Call.{verdict_of}
use Rattle.sheet_read.proofs.read_verdict.Goals as goal

pub returns-then-not-is_sheet : goal.returns-then-not-is_sheet
unfolding verdict_of unless
returns-then-not-is_sheet c = rw (sym c.is_sheet.ensures ∙ c.if-not-is_sheet.true)

pub returns-then-not-room_for : goal.returns-then-not-room_for
unfolding verdict_of unless
returns-then-not-room_for c = rw (sym c.is_sheet.ensures ∙ c.if-not-is_sheet.false, sym c.room_for.ensures ∙ c.if-not-room_for.true)

pub returns : goal.returns
unfolding verdict_of unless
returns c = rw (sym c.is_sheet.ensures ∙ c.if-not-is_sheet.false, sym c.room_for.ensures ∙ c.if-not-room_for.false)
