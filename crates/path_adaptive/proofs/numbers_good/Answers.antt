-- `numbers_good` meets its contract.
use Rattle.path_adaptive.specs.Call.{numbers_good}
use mathlib.Core.Path.{sym, ◌∙◌}
use Rattle.path_adaptive.proofs.numbers_good.Goals as goal

pub returns-then-not-matrix_good : goal.returns-then-not-matrix_good
unfolding numbers_good
returns-then-not-matrix_good c = simp (sym c.matrix_good.ensures ∙ c.if-not-matrix_good.true)

pub returns-then-not-size_good : goal.returns-then-not-size_good
unfolding numbers_good
returns-then-not-size_good c = simp (sym c.matrix_good.ensures ∙ c.if-not-matrix_good.false, sym c.size_good.ensures ∙ c.if-not-size_good.true)

pub returns-then-not-size_good-2 : goal.returns-then-not-size_good-2
unfolding numbers_good
returns-then-not-size_good-2 c = simp (sym c.matrix_good.ensures ∙ c.if-not-matrix_good.false, sym c.size_good.ensures ∙ c.if-not-size_good.false, sym c.size_good-2.ensures ∙ c.if-not-size_good-2.true)

pub returns-then-not-step_good : goal.returns-then-not-step_good
unfolding numbers_good
returns-then-not-step_good c = simp (sym c.matrix_good.ensures ∙ c.if-not-matrix_good.false, sym c.size_good.ensures ∙ c.if-not-size_good.false, sym c.size_good-2.ensures ∙ c.if-not-size_good-2.false, sym c.step_good.ensures ∙ c.if-not-step_good.true)

pub returns : goal.returns
unfolding numbers_good
returns c = simp (sym c.matrix_good.ensures ∙ c.if-not-matrix_good.false, sym c.size_good.ensures ∙ c.if-not-size_good.false, sym c.size_good-2.ensures ∙ c.if-not-size_good-2.false, sym c.step_good.ensures ∙ c.if-not-step_good.false, sym c.tolerance_good.ensures)
