-- `outside` meets its contract.
use Rattle.path_adaptive.specs.Walk.{outside_of}
use mathlib.Core.Path.{sym, ◌∙◌}
use Rattle.path_adaptive.proofs.screen.outside.Goals as goal

pub returns-then-both_below : goal.returns-then-both_below
unfolding outside_of
returns-then-both_below c = simp (sym c.both_below.ensures ∙ c.if-both_below.true)

pub returns-then-both_below-2 : goal.returns-then-both_below-2
unfolding outside_of
returns-then-both_below-2 c = simp (sym c.both_below.ensures ∙ c.if-both_below.false, sym c.both_below-2.ensures ∙ c.if-both_below-2.true)

pub returns-then-both_above : goal.returns-then-both_above
unfolding outside_of
returns-then-both_above c = simp (sym c.both_below.ensures ∙ c.if-both_below.false, sym c.both_below-2.ensures ∙ c.if-both_below-2.false, sym c.both_above.ensures ∙ c.if-both_above.true)

pub returns : goal.returns
unfolding outside_of
returns c = simp (sym c.both_below.ensures ∙ c.if-both_below.false, sym c.both_below-2.ensures ∙ c.if-both_below-2.false, sym c.both_above.ensures ∙ c.if-both_above.false, sym c.both_above-2.ensures)
