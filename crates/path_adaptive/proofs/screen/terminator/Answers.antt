-- `terminator` meets its contract.
use lib.Ieee.{Float, lt}
use Rattle.path_adaptive.specs.Walk.{span_ends}
use mathlib.Core.Path.{sym, ap, ◌∙◌}
use Rattle.path_adaptive.proofs.screen.terminator.Goals as goal

pub returns-then-outside : goal.returns-then-outside
unfolding span_ends
returns-then-outside c = simp (sym c.outside.ensures ∙ c.if-outside.true)

pub returns-then-distance_squared-view : goal.returns-then-distance_squared-view
unfolding span_ends
returns-then-distance_squared-view c = simp (sym c.outside.ensures ∙ c.if-outside.false, ap (λ (x : Float). lt x c.args.view.now.square) (sym c.distance_squared.ensures) ∙ c.if-distance_squared-view.true)

pub returns : goal.returns
unfolding span_ends
returns c = simp (sym c.outside.ensures ∙ c.if-outside.false, ap (λ (x : Float). lt x c.args.view.now.square) (sym c.distance_squared.ensures) ∙ c.if-distance_squared-view.false, sym c.distance_squared-2.ensures)
