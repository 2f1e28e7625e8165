-- `split` meets its contract. A pattern with a leading digit has its digits; another's are moved up by the zeros before them (`raised`).
use Rattle.std.proofs.Common.{◌%◌, ◌^◌, arith}
use lib.Count.{leading_le}
use Rattle.vector.proofs.Roots.{normal, top, few_digits, raised}
use Rattle.vector.proofs.number.split.Goals as goal

pub returns-then-f-gt0 : goal.returns-then-f-gt0
returns-then-f-gt0 c = normal c.args.b c.requires.1 c.if-f-gt0.true

pub overflow_cast-z : goal.overflow_cast-z
overflow_cast-z c = omega (arith, leading_le 64 (c.args.b % 2 ^ 52))

pub overflow_sub-z : goal.overflow_sub-z
overflow_sub-z c = let t = top c.args.b c.requires.0 c.if-f-gt0.false in omega (arith, t.1, few_digits c.args.b c.requires.0 c.if-f-gt0.false)

pub overflow_shl-result : goal.overflow_shl-result
overflow_shl-result c = let t = top c.args.b c.requires.0 c.if-f-gt0.false in omega (arith, t.1)

pub overflow_sub-result : goal.overflow_sub-result
overflow_sub-result c = let t = top c.args.b c.requires.0 c.if-f-gt0.false in omega (arith, t.1)

pub returns : goal.returns
returns c = raised c.args.b c.requires.0 c.if-f-gt0.false
