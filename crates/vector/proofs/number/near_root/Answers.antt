-- `near_root` meets its contract: what two steps give, and 2^52, is a number (`sum-no-nan`) with the wanted last digits (`close`).
use Rattle.std.proofs.Common.{◌+◌, ◌/◌, ◌^◌, arith, le→leb}
use lib.Ieee.{in_float}
use Rattle.vector.proofs.NearRoot.{sum-no-nan, close}
use Rattle.vector.proofs.number.near_root.Goals as goal

pub int_to_float-h : goal.int_to_float-h
unfolding in_float
int_to_float-h c = le→leb ((c.args.n + 1) / 2) (2 ^ 53) (omega (arith, c.requires))

pub float_to_bits-result : goal.float_to_bits-result
float_to_bits-result c = sum-no-nan c.args.n c.requires.0 c.requires.1 c.rough.result c.heron-once.result c.heron-twice.result c.rough.ensures c.heron-once.ensures c.heron-twice.ensures

pub returns : goal.returns
returns c = close c.args.n c.requires.0 c.requires.1 c.rough.result c.heron-once.result c.heron-twice.result c.rough.ensures c.heron-once.ensures c.heron-twice.ensures
