use native.Mathlib.Omega.{arith}
use Rattle.path_splice.proofs.Pairs.{pairing, pairing_more}
use Rattle.path_splice.proofs.fill_pairs.Goals as goal

pub loop-i-init : goal.loop-i-init
loop-i-init c = pairing c.args.s.now c.args.n c.requires.0

pub loop-i-preserved : goal.loop-i-preserved
loop-i-preserved c = pairing_more c.args.s.now c.args.n c.requires.0 c.loop-i.s c.loop-i.i (omega arith) c.loop-i.invariant
