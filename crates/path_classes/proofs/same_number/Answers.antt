-- `same_number` meets its contract.
use Rattle.path_classes.proofs.Same.{by_pattern}
use Rattle.path_classes.proofs.same_number.Goals as goal

pub returns : goal.returns
returns c = rw (c.pattern_of.ensures.0, c.pattern_of-2.ensures.0) (by_pattern _ _ c.pattern_of.ensures.1 c.pattern_of-2.ensures.1)
