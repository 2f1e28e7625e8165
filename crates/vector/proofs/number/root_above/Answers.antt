-- `root_above` meets its contract.
use Rattle.std.proofs.Common.{T, sym, subst}
use lib.Ieee.{binary64, fits}
use Rattle.vector.proofs.RootLaws.{sqrt_monotone}
use Rattle.vector.proofs.number.root_above.Goals as goal

pub returns-then-not-x-y : goal.returns-then-not-x-y
returns-then-not-x-y c = sym (sqrt_monotone c.args.y c.args.x (let held_y : T (fits binary64 c.args.y) = subst T (sym c.well_formed.1.0.1) tt in held_y) (let held : T (fits binary64 c.args.x) = subst T (sym c.well_formed.0.1) tt in held) c.if-not-x-y.true)

pub far_above-requires : goal.far_above-requires
far_above-requires c = c.if-not-x-y.false

pub returns-then-far_above : goal.returns-then-far_above
returns-then-far_above c = sym (c.far_above.ensures c.if-far_above.true)

pub returns : goal.returns
returns c = rw (c.root_or_nan-2.ensures, c.root_or_nan.ensures)
