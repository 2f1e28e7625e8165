-- `pattern_good` meets its contract.
use native.Mathlib.Omega.{arith}
use Rattle.stl.proofs.Sizes.{by_pattern}
use Rattle.stl.proofs.pattern_good.Goals as goal

pub returns : goal.returns
returns c = by_pattern c.args.pattern (omega arith)
