use mathlib.Core.Path.{sym, ◌∙◌}
use Rattle.sheet_salvage.specs.Salvage.{header_usable}
use Rattle.sheet_salvage.proofs.header_usable.Goals as goal

pub returns-then-not-mode_good : goal.returns-then-not-mode_good
unfolding header_usable
returns-then-not-mode_good c = rw (← c.word_at.ensures, sym c.mode_good.ensures ∙ c.if-not-mode_good.true)

pub returns-then-not-counts_good : goal.returns-then-not-counts_good
unfolding header_usable
returns-then-not-counts_good c = rw (← c.word_at.ensures, sym c.mode_good.ensures ∙ c.if-not-mode_good.false, ← c.word_at-2.ensures, ← c.word_at-strokes.ensures, sym c.counts_good.ensures ∙ c.if-not-counts_good.true)

pub returns : goal.returns
unfolding header_usable
returns c = rw (← c.word_at.ensures, sym c.mode_good.ensures ∙ c.if-not-mode_good.false, ← c.word_at-2.ensures, ← c.word_at-strokes.ensures, sym c.counts_good.ensures ∙ c.if-not-counts_good.false, ← c.numbers_from.ensures)
