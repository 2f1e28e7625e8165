-- `abs` meets its contract: a law for each branch.
use Rattle.std.proofs.Common.{T, sym, subst}
use lib.Ieee.{binary64, fits, of_bits}
use Rattle.vector.proofs.Abs.{below, zero_is, over}
use Rattle.vector.proofs.number.abs.Goals as goal

pub returns-then-x : goal.returns-then-x
unfolding of_bits
returns-then-x c = below c.args.x c.if-x.true

pub returns-then-x-2 : goal.returns-then-x-2
unfolding of_bits
returns-then-x-2 c = zero_is c.args.x (let held : T (fits binary64 c.args.x) = subst T (sym c.well_formed.0.1) tt in held) c.if-x-2.true

pub returns : goal.returns
unfolding of_bits
returns c = over c.args.x c.if-x.false c.if-x-2.false
