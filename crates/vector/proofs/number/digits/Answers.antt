-- `digits` meets its contract: half of the digits, the whole part of the root of n, and the other half by the division (`by_less`, `by_quotient`).
use Rattle.std.proofs.Common.{◌-◌, ◌*◌, ◌/◌, ◌%◌, ◌^◌, arith}
use Rattle.vector.proofs.Roots.{Sizes, sizes, by_less, by_quotient}
use Rattle.vector.proofs.number.digits.Goals as goal

pub overflow_mul-rest-2 : goal.overflow_mul-rest-2
overflow_mul-rest-2 c = omega (arith, (let known : let n = c.args.n in let s = c.whole_root-s.result in Sizes n s ((n - s * s) * 2 ^ 27 / (2 * s)) ((n - s * s) * 2 ^ 27 % (2 * s)) = sizes c.args.n c.whole_root-s.result c.requires.0 c.requires.1 c.whole_root-s.ensures in known))

pub overflow_mul-q : goal.overflow_mul-q
overflow_mul-q c = omega (arith, (let known : let n = c.args.n in let s = c.whole_root-s.result in Sizes n s ((n - s * s) * 2 ^ 27 / (2 * s)) ((n - s * s) * 2 ^ 27 % (2 * s)) = sizes c.args.n c.whole_root-s.result c.requires.0 c.requires.1 c.whole_root-s.ensures in known))

pub nonzero_div-q : goal.nonzero_div-q
nonzero_div-q c = omega (arith, (let known : let n = c.args.n in let s = c.whole_root-s.result in Sizes n s ((n - s * s) * 2 ^ 27 / (2 * s)) ((n - s * s) * 2 ^ 27 % (2 * s)) = sizes c.args.n c.whole_root-s.result c.requires.0 c.requires.1 c.whole_root-s.ensures in known))

pub overflow_mul-s : goal.overflow_mul-s
overflow_mul-s c = omega (arith, (let known : let n = c.args.n in let s = c.whole_root-s.result in Sizes n s ((n - s * s) * 2 ^ 27 / (2 * s)) ((n - s * s) * 2 ^ 27 % (2 * s)) = sizes c.args.n c.whole_root-s.result c.requires.0 c.requires.1 c.whole_root-s.ensures in known))

pub nonzero_rem-rest : goal.nonzero_rem-rest
nonzero_rem-rest c = omega (arith, (let known : let n = c.args.n in let s = c.whole_root-s.result in Sizes n s ((n - s * s) * 2 ^ 27 / (2 * s)) ((n - s * s) * 2 ^ 27 % (2 * s)) = sizes c.args.n c.whole_root-s.result c.requires.0 c.requires.1 c.whole_root-s.ensures in known))

pub overflow_mul-rest-3 : goal.overflow_mul-rest-3
overflow_mul-rest-3 c = omega (arith, (let known : let n = c.args.n in let s = c.whole_root-s.result in Sizes n s ((n - s * s) * 2 ^ 27 / (2 * s)) ((n - s * s) * 2 ^ 27 % (2 * s)) = sizes c.args.n c.whole_root-s.result c.requires.0 c.requires.1 c.whole_root-s.ensures in known))

pub overflow_mul-q-2 : goal.overflow_mul-q-2
overflow_mul-q-2 c = omega (arith, (let known : let n = c.args.n in let s = c.whole_root-s.result in Sizes n s ((n - s * s) * 2 ^ 27 / (2 * s)) ((n - s * s) * 2 ^ 27 % (2 * s)) = sizes c.args.n c.whole_root-s.result c.requires.0 c.requires.1 c.whole_root-s.ensures in known))

pub overflow_mul-result : goal.overflow_mul-result
overflow_mul-result c = omega (arith, (let known : let n = c.args.n in let s = c.whole_root-s.result in Sizes n s ((n - s * s) * 2 ^ 27 / (2 * s)) ((n - s * s) * 2 ^ 27 % (2 * s)) = sizes c.args.n c.whole_root-s.result c.requires.0 c.requires.1 c.whole_root-s.ensures in known))

pub overflow_add-result : goal.overflow_add-result
overflow_add-result c = omega (arith, (let known : let n = c.args.n in let s = c.whole_root-s.result in Sizes n s ((n - s * s) * 2 ^ 27 / (2 * s)) ((n - s * s) * 2 ^ 27 % (2 * s)) = sizes c.args.n c.whole_root-s.result c.requires.0 c.requires.1 c.whole_root-s.ensures in known))

pub overflow_sub-result : goal.overflow_sub-result
overflow_sub-result c = omega (arith, (let known : let n = c.args.n in let s = c.whole_root-s.result in Sizes n s ((n - s * s) * 2 ^ 27 / (2 * s)) ((n - s * s) * 2 ^ 27 % (2 * s)) = sizes c.args.n c.whole_root-s.result c.requires.0 c.requires.1 c.whole_root-s.ensures in known))

pub returns-then-rest-s : goal.returns-then-rest-s
returns-then-rest-s c = by_less c.args.n c.whole_root-s.result c.requires.0 c.requires.1 c.whole_root-s.ensures c.if-rest-s.true

pub overflow_mul-result-2 : goal.overflow_mul-result-2
overflow_mul-result-2 c = omega (arith, (let known : let n = c.args.n in let s = c.whole_root-s.result in Sizes n s ((n - s * s) * 2 ^ 27 / (2 * s)) ((n - s * s) * 2 ^ 27 % (2 * s)) = sizes c.args.n c.whole_root-s.result c.requires.0 c.requires.1 c.whole_root-s.ensures in known))

pub overflow_add-result-2 : goal.overflow_add-result-2
overflow_add-result-2 c = omega (arith, (let known : let n = c.args.n in let s = c.whole_root-s.result in Sizes n s ((n - s * s) * 2 ^ 27 / (2 * s)) ((n - s * s) * 2 ^ 27 % (2 * s)) = sizes c.args.n c.whole_root-s.result c.requires.0 c.requires.1 c.whole_root-s.ensures in known))

pub returns : goal.returns
returns c = by_quotient c.args.n c.whole_root-s.result c.requires.0 c.requires.1 c.whole_root-s.ensures c.if-rest-s.false
