-- `coordinate` meets its contract.
use Rattle.std.proofs.Common.{ne_eqb}
use Rattle.path_classes.proofs.coordinate.Goals as goal

pub returns-then-k-eq0 : goal.returns-then-k-eq0
returns-then-k-eq0 c = rw c.if-k-eq0.true

pub returns-then-k-eq1 : goal.returns-then-k-eq1
returns-then-k-eq1 c = rw c.if-k-eq1.true

pub returns : goal.returns
returns c = rw (ne_eqb _ _ c.if-k-eq0.false, ne_eqb _ _ c.if-k-eq1.false)
