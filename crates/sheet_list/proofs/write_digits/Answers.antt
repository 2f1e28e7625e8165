use native.Mathlib.Omega.{arith}
use Rattle.sheet_list.proofs.Inks.{above, digit_turn, digit_stop, digit_end}
use Rattle.sheet_list.proofs.write_digits.Goals as goal

pub returns-then-q-eq0 : goal.returns-then-q-eq0
returns-then-q-eq0 c = (digit_stop c.loop.out c.loop.at c.loop.counter c.loop.q c.args.x c.loop.invariant.1 (omega arith) c.if-q-eq0.true, omega arith)

pub loop-preserved : goal.loop-preserved
loop-preserved c = (omega (arith, c.loop.invariant.0), digit_turn c.loop.out c.loop.at c.loop.counter c.loop.q c.args.x c.loop.invariant.1 (omega arith) (above c.loop.q c.if-q-eq0.false) _ c.put_byte.ensures)

pub returns : goal.returns
returns c = (digit_end c.loop.out c.loop.at c.loop.counter c.loop.q c.args.x c.loop.invariant.1 (omega arith), omega arith)
