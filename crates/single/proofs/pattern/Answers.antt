-- `pattern` meets its contract.
use mathlib.Core.Path.{sym, ◌∙◌}
use Rattle.single.proofs.Patterns.{itself, not_itself, narrows, written, not_written, nan_written}
use Rattle.single.proofs.pattern.Goals as goal

pub float_to_float-result : goal.float_to_float-result
float_to_float-result c = narrows _ (sym c.is_single.ensures ∙ c.if-is_single.true) (itself _ c.if-x.true)

pub float_to_bits-result : goal.float_to_bits-result
float_to_bits-result c = itself _ c.if-x.true

pub returns-then-is_single : goal.returns-then-is_single
returns-then-is_single c = written _ (sym c.is_single.ensures ∙ c.if-is_single.true) (itself _ c.if-x.true)

pub returns-else-is_single : goal.returns-else-is_single
returns-else-is_single c = not_written _ (sym c.is_single.ensures ∙ c.if-is_single.false)

pub returns-else-x : goal.returns-else-x
returns-else-x c = nan_written _ (not_itself _ c.if-x.false)
