use native.Mathlib.Omega.{arith}
use Rattle.sheet_write.proofs.Kepts.{count_turn, count-end}
use Rattle.sheet_write.proofs.kept.Goals as goal

pub loop-i-preserved : goal.loop-i-preserved
loop-i-preserved c = (omega arith, count_turn c.args.n c.args.starts.now c.loop-i.i (omega arith) c.loop-i.k _ _ c.present-k.ensures.value c.loop-i.invariant.1)

pub returns : goal.returns
returns c = record { value = count-end c.args.n c.args.starts.now c.loop-i.i (omega arith) c.loop-i.k _ c.loop-i.invariant.1; upper_bound = omega arith }
