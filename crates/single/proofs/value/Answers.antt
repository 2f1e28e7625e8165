-- `value` meets its contract.
use mathlib.Core.Path.{refl}
use lib.Ieee.{of_bits, div}
use Rattle.single.proofs.Patterns.{nan_read, no_nan_bits, holds}
use Rattle.single.proofs.value.Goals as goal

pub returns-then-pattern-gt2139095040 : goal.returns-then-pattern-gt2139095040
unfolding of_bits div
returns-then-pattern-gt2139095040 c = nan_read c.args.pattern c.if-pattern-gt2139095040.true

pub float_from_bits-result : goal.float_from_bits-result
float_from_bits-result c = no_nan_bits c.args.pattern c.if-pattern-gt2139095040.false

pub float_to_float-result : goal.float_to_float-result
float_to_float-result c = holds c.args.pattern c.if-pattern-gt2139095040.false

pub returns : goal.returns
returns c = refl
