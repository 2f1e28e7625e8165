-- `pattern_of` meets its contract.
use Rattle.std.proofs.Common.{T, sym, refl, ap, subst}
use lib.Ieee.{binary64, to_bits}
use Rattle.single.proofs.Patterns.{itself, not_itself}
use Rattle.path_classes.proofs.Same.{held}
use Rattle.path_classes.proofs.pattern_of.Goals as goal

pub float_to_bits-result : goal.float_to_bits-result
float_to_bits-result c = itself _ c.if-x.true

pub returns-then-x : goal.returns-then-x
returns-then-x c = (refl, held _ (subst T (sym c.well_formed.0.1) tt))

pub returns : goal.returns
unfolding to_bits
returns c = (ap (to_bits binary64) (not_itself _ c.if-x.false), held _ (subst T (sym c.well_formed.0.1) tt))
