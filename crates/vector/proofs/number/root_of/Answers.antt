-- `root_of` meets its contract (`worked`).
use Rattle.std.proofs.Common.{T, sym, subst}
use lib.Ieee.{binary64, fits, of_bits}
use Rattle.vector.proofs.Patterns.{Above, is_above, no_nan, in_patterns, not_nan}
use Rattle.vector.proofs.RootSearch.{worked}
use Rattle.vector.proofs.number.root_of.Goals as goal

pub float_to_bits-x : goal.float_to_bits-x
unfolding of_bits
float_to_bits-x c = no_nan c.args.x (let is : Above c.args.x = is_above c.args.x c.requires.0 c.requires.1 in is)

pub root_bits-requires : goal.root_bits-requires
unfolding of_bits
root_bits-requires c = in_patterns c.args.x (let held : T (fits binary64 c.args.x) = subst T (sym c.well_formed.0.1) tt in held) (let is : Above c.args.x = is_above c.args.x c.requires.0 c.requires.1 in is)

pub float_from_bits-result : goal.float_from_bits-result
float_from_bits-result c = not_nan c.root_bits.result c.root_bits.ensures.0

pub returns : goal.returns
unfolding of_bits
returns c = worked c.args.x c.root_bits.result (let held : T (fits binary64 c.args.x) = subst T (sym c.well_formed.0.1) tt in held) (let is : Above c.args.x = is_above c.args.x c.requires.0 c.requires.1 in is) c.root_bits.ensures.1
