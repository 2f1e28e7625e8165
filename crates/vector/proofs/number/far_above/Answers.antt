-- `far_above` meets its contract: three patterns are enough for the roots to be apart.
use Rattle.std.proofs.Common.{◌+◌, T, sym, subst, arith, leb→le}
use lib.Ieee.{binary64, fits, of_bits, div, to_bits}
use Rattle.vector.proofs.Patterns.{Above, no_nan, in_patterns}
use Rattle.vector.proofs.RootGap.{roots_apart, above_zero, between, over}
use Rattle.vector.proofs.number.far_above.Goals as goal

pub float_to_bits-result : goal.float_to_bits-result
unfolding of_bits div
float_to_bits-result c = no_nan c.args.y (let low : Above c.args.y = between c.args.x c.args.y c.if-y.true c.requires c.if-x.true in low)

pub overflow_add-result : goal.overflow_add-result
unfolding of_bits div
overflow_add-result c = omega (arith, in_patterns c.args.y (let held_y : T (fits binary64 c.args.y) = subst T (sym c.well_formed.1.0.1) tt in held_y) (let low : Above c.args.y = between c.args.x c.args.y c.if-y.true c.requires c.if-x.true in low))

pub float_to_bits-result-then-x : goal.float_to_bits-result-then-x
unfolding of_bits div
float_to_bits-result-then-x c = no_nan c.args.x (let high : Above c.args.x = over c.args.x c.args.y c.if-y.true c.requires c.if-x.true in high)

pub returns-then-x : goal.returns-then-x
unfolding of_bits div
returns-then-x c =
    λ t.
    roots_apart c.args.x c.args.y (let held : T (fits binary64 c.args.x) = subst T (sym c.well_formed.0.1) tt in held) (let held_y : T (fits binary64 c.args.y) = subst T (sym c.well_formed.1.0.1) tt in held_y) (let high : Above c.args.x = over c.args.x c.args.y c.if-y.true c.requires c.if-x.true in high) (let low : Above c.args.y = between c.args.x c.args.y c.if-y.true c.requires c.if-x.true in low) (leb→le (to_bits binary64 c.args.y + 3) (to_bits binary64 c.args.x) (subst T (sym t) tt))

pub returns-then-y : goal.returns-then-y
returns-then-y c = λ t. absurd (subst T (sym t) tt)

pub returns : goal.returns
unfolding of_bits
returns c = λ t. above_zero c.args.x c.args.y (let held : T (fits binary64 c.args.x) = subst T (sym c.well_formed.0.1) tt in held) t c.requires
