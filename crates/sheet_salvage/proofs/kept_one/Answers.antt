use Rattle.sheet_salvage.proofs.Points.{kept-bits}
use native.Mathlib.Omega.{arith}
use Rattle.sheet_salvage.proofs.kept_one.Goals as goal

pub returns : goal.returns
returns c = kept-bits c.args.single c.args.prev c.args.here c.args.next (omega arith) (omega arith) (omega arith) (omega arith)
