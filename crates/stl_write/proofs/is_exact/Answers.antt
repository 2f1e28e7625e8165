-- `is_exact` meets its contract: each test is that of the definition.
use mathlib.Core.Path.{sym, ◌∙◌}
use Rattle.stl_write.proofs.is_exact.Goals as goal

pub returns-then-not-is_single : goal.returns-then-not-is_single
returns-then-not-is_single c = rw (sym c.is_single.ensures ∙ c.if-not-is_single.true)

pub returns-then-not-is_single-2 : goal.returns-then-not-is_single-2
returns-then-not-is_single-2 c = rw (sym c.is_single.ensures ∙ c.if-not-is_single.false, sym c.is_single-2.ensures ∙ c.if-not-is_single-2.true)

pub returns : goal.returns
returns c = rw (sym c.is_single.ensures ∙ c.if-not-is_single.false, sym c.is_single-2.ensures ∙ c.if-not-is_single-2.false) c.is_single-3.ensures
