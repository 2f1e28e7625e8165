-- `narrow` meets its contract.
use Prim.Native.Nat.{◌+◌, ◌^◌}
use native.Mathlib.Omega.{arith}
use lib.Count.{trailing_le}
use Rattle.single.proofs.Held.{at_top, at-bottom, by_size}
use Rattle.single.proofs.narrow.Goals as goal

pub returns-then-field-eq2047 : goal.returns-then-field-eq2047
returns-then-field-eq2047 c = λ s. at_top s _ _ c.if-field-eq2047.true

pub returns-then-field-eq0 : goal.returns-then-field-eq0
returns-then-field-eq0 c = λ s. at-bottom s _ _ c.if-field-eq0.true c.requires.1

pub overflow_cast-zeros : goal.overflow_cast-zeros
overflow_cast-zeros c = record { fits = omega (arith, trailing_le 64 (2 ^ 52 + c.args.digits)) }

pub overflow_add-field : goal.overflow_add-field
overflow_add-field c = record { fits = omega (arith, trailing_le 64 (2 ^ 52 + c.args.digits), c.requires.0) }

pub returns : goal.returns
returns c = λ s. by_size s _ _ c.requires.0 c.if-field-eq2047.false c.if-field-eq0.false c.requires.1 (omega arith) (omega arith)
