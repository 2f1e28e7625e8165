-- `is_single` meets its contract.
use mathlib.Core.Path.{sym, subst}
use lib.Dec.{T}
use Rattle.single.proofs.Patterns.{itself, not_itself, by_fields, nan_single}
use Rattle.single.proofs.is_single.Goals as goal

pub float_to_bits-bits : goal.float_to_bits-bits
float_to_bits-bits c = itself _ c.if-x.true

pub returns-then-x : goal.returns-then-x
returns-then-x c = by_fields _ _ (subst T (sym c.well_formed.0.1) tt) c.narrow.ensures

pub returns : goal.returns
returns c = nan_single _ (not_itself _ c.if-x.false)
