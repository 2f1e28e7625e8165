use Rattle.sheet_salvage.proofs.Points.{begun-bits}
use native.Mathlib.Omega.{arith}
use Rattle.sheet_salvage.proofs.begun_one.Goals as goal

pub returns : goal.returns
returns c = begun-bits c.args.keep c.args.prev (omega arith) (omega arith)
