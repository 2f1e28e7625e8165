-- `chop_verdict` meets its contract.
use Rattle.refusal.specs.Refusals.{unless}
use Rattle.path_chop.specs.Call.{verdict_of}
use mathlib.Core.Path.{sym, ◌∙◌}
use Rattle.path_chop.proofs.chop_verdict.Goals as goal

pub returns-then-not-shaped : goal.returns-then-not-shaped
unfolding verdict_of unless
returns-then-not-shaped c = simp (sym c.shaped.ensures ∙ c.if-not-shaped.true)

pub returns-then-not-counted : goal.returns-then-not-counted
unfolding verdict_of unless
returns-then-not-counted c = simp (sym c.shaped.ensures ∙ c.if-not-shaped.false, sym c.counted.ensures ∙ c.if-not-counted.true)

pub returns-then-not-coordinates_good : goal.returns-then-not-coordinates_good
unfolding verdict_of unless
returns-then-not-coordinates_good c = simp (sym c.shaped.ensures ∙ c.if-not-shaped.false, sym c.counted.ensures ∙ c.if-not-counted.false, sym c.coordinates_good.ensures ∙ c.if-not-coordinates_good.true)

pub returns-then-not-step_good : goal.returns-then-not-step_good
unfolding verdict_of unless
returns-then-not-step_good c = simp (sym c.shaped.ensures ∙ c.if-not-shaped.false, sym c.counted.ensures ∙ c.if-not-counted.false, sym c.coordinates_good.ensures ∙ c.if-not-coordinates_good.false, sym c.step_good.ensures ∙ c.if-not-step_good.true)

pub returns-then-not-fits : goal.returns-then-not-fits
unfolding verdict_of unless
returns-then-not-fits c = simp (sym c.shaped.ensures ∙ c.if-not-shaped.false, sym c.counted.ensures ∙ c.if-not-counted.false, sym c.coordinates_good.ensures ∙ c.if-not-coordinates_good.false, sym c.step_good.ensures ∙ c.if-not-step_good.false, sym c.fits.ensures ∙ c.if-not-fits.true)

pub returns : goal.returns
unfolding verdict_of unless
returns c = simp (sym c.shaped.ensures ∙ c.if-not-shaped.false, sym c.counted.ensures ∙ c.if-not-counted.false, sym c.coordinates_good.ensures ∙ c.if-not-coordinates_good.false, sym c.step_good.ensures ∙ c.if-not-step_good.false, sym c.fits.ensures ∙ c.if-not-fits.false)
