-- `root_bits` meets its contract: next to 1.0 by its leaf; else the digits are those of the root, rounded, and the exponent is half.
use Rattle.std.proofs.Common.{arith}
use Rattle.vector.specs.Units.{at}
use Rattle.vector.proofs.Roots.{by_parity, twice}
use Rattle.vector.proofs.number.root_bits.Goals as goal

pub returns-then-b-eq34326183936 : goal.returns-then-b-eq34326183936
returns-then-b-eq34326183936 c = c.root_bits_near_one.ensures

pub overflow_mul-n : goal.overflow_mul-n
overflow_mul-n c = omega (arith, (twice c.split-s.result.d c.split-s.result.e c.split-s.ensures.least c.split-s.ensures.most).1)

pub digits-requires : goal.digits-requires
digits-requires c = twice c.split-s.result.d c.split-s.result.e c.split-s.ensures.least c.split-s.ensures.most

pub returns : goal.returns
returns c = by_parity (at c.args.b) c.split-s.result.d c.split-s.result.e c.digits.result c.split-s.ensures c.digits.ensures.0 c.digits.ensures.1
