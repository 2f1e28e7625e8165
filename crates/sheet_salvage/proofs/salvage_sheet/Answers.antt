use Rattle.refusal.specs.Outcome.{outcome}
use mathlib.Core.Path.{sym, ◌∙◌}
use Rattle.refusal.specs.Refusals.{unless}
use Rattle.sheet_salvage.specs.Call.{verdict_of, salvage_left}
use Rattle.sheet_salvage.proofs.salvage_sheet.Goals as goal

pub returns-then-not-header_usable : goal.returns-then-not-header_usable
unfolding salvage_left verdict_of unless outcome
returns-then-not-header_usable c = rw (sym c.header_usable.ensures ∙ c.if-not-header_usable.true)
