-- `put_inside` meets its contract.
use native.Mathlib.Omega.{arith}
use lib.ListN.{length-set}
use Rattle.byte_words.proofs.Words.{four_le}
use Rattle.byte_words.proofs.put_inside.Goals as goal

pub bounds-out-i-2 : goal.bounds-out-i-2
bounds-out-i-2 c = simp length-set (omega arith)

pub bounds-out-i-3 : goal.bounds-out-i-3
bounds-out-i-3 c = simp length-set (omega arith)

pub returns : goal.returns
returns c = four_le c.args.out.now c.args.i c.args.w _ c.to_le_bytes-b.ensures
