-- `word` meets its contract.
use Rattle.std.proofs.Common.{ne_eqb}
use Rattle.path_classes.specs.InnerKeys.{word_of}
use Rattle.path_classes.proofs.Same.{upper_half}
use Rattle.path_classes.proofs.word.Goals as goal

pub returns-then-j-eq0 : goal.returns-then-j-eq0
unfolding word_of
returns-then-j-eq0 c = rw (← c.coordinate.ensures, c.if-j-eq0.true, c.pattern_of-b.ensures.0)

pub returns : goal.returns
unfolding word_of
returns c = rw (← c.coordinate.ensures, ne_eqb _ _ c.if-j-eq0.false) (upper_half _ _ c.pattern_of-b.ensures.1 c.pattern_of-b.ensures.0)
