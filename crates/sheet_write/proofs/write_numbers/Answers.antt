use mathlib.Core.Path.{sym, ◌∙◌}
use Prim.Native.Nat.{◌+◌, ◌*◌}
use native.Mathlib.Omega.{arith}
use Rattle.sheet_write.proofs.Kepts.{number_turn, number_end}
use Rattle.sheet_write.proofs.write_numbers.Goals as goal

pub loop-i-preserved : goal.loop-i-preserved
loop-i-preserved c =
    number_turn c.args.numbers.now c.loop-i.i (omega arith) c.loop-i.out _ c.args.k c.put_word.ensures ∙ c.loop-i.invariant

pub returns : goal.returns
returns c = sym (number_end c.args.numbers.now c.loop-i.i (omega arith) c.loop-i.out ((c.args.k + c.loop-i.i) * 4)) ∙ c.loop-i.invariant
