-- `clash` meets its contract.
use Rattle.std.proofs.Common.{sym, ◌∙◌}
use borrow.Author.Tests.{eqb-false}
use Rattle.path_classes.proofs.clash.Goals as goal

pub returns-then-same_point : goal.returns-then-same_point
returns-then-same_point c = λ h q. sym c.same_point.ensures ∙ c.if-same_point.true

pub returns : goal.returns
returns c = λ h q. absurd (eqb-false _ _ h (c.mix.ensures.0 ∙ q ∙ sym c.mix-2.ensures.0))
