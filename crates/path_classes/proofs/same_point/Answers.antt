-- `same_point` meets its contract.
use Rattle.std.proofs.Common.{sym, ◌∙◌}
use Rattle.path_classes.specs.Classes.{same_point}
use Rattle.path_classes.proofs.same_point.Goals as goal

pub returns-then-not-same_number : goal.returns-then-not-same_number
unfolding same_point
returns-then-not-same_number c = rw (sym c.same_number.ensures ∙ c.if-not-same_number.true)

pub returns-then-not-same_number-2 : goal.returns-then-not-same_number-2
unfolding same_point
returns-then-not-same_number-2 c = rw (sym c.same_number.ensures ∙ c.if-not-same_number.false, sym c.same_number-2.ensures ∙ c.if-not-same_number-2.true)

pub returns : goal.returns
unfolding same_point
returns c = rw (sym c.same_number.ensures ∙ c.if-not-same_number.false, sym c.same_number-2.ensures ∙ c.if-not-same_number-2.false) c.same_number-3.ensures
