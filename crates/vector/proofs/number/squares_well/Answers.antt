-- `squares_well` meets its contract: its patterns are those of `root_of_square`.
use Rattle.std.proofs.Common.{◌*◌, ◌^◌, T, sym, subst, ltb→lt}
use lib.Ieee.{binary64, fits, of_bits, div, to_bits}
use Rattle.vector.proofs.Patterns.{Above, is_above, no_nan}
use Rattle.vector.proofs.RootSquare.{root_of_square}
use Rattle.vector.proofs.number.squares_well.Goals as goal

pub float_to_bits-b : goal.float_to_bits-b
unfolding of_bits div
float_to_bits-b c = no_nan c.args.t (let is : Above c.args.t = is_above c.args.t c.if-t.true c.if-t-2.true in is)

pub returns-then-b-ge2422936599525326848 : goal.returns-then-b-ge2422936599525326848
unfolding of_bits div
returns-then-b-ge2422936599525326848 c =
    λ h.
    let t = c.args.t in
    root_of_square t (let held : T (fits binary64 c.args.t) = subst T (sym c.well_formed.0.1) tt in held) (let is : Above c.args.t = is_above c.args.t c.if-t.true c.if-t-2.true in is) c.if-b-ge2422936599525326848.true (ltb→lt (to_bits binary64 t) (1200 * 2 ^ 52) (subst T (sym h) tt))

pub returns-else-b-ge2422936599525326848 : goal.returns-else-b-ge2422936599525326848
returns-else-b-ge2422936599525326848 c = λ h. absurd (subst T (sym h) tt)

pub returns-else-t-2 : goal.returns-else-t-2
returns-else-t-2 c = λ h. absurd (subst T (sym h) tt)

pub returns-else-t : goal.returns-else-t
returns-else-t c = λ h. absurd (subst T (sym h) tt)
