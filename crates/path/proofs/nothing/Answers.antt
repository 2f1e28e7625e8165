-- `nothing` meets its contract.
use lib.Ieee.{of_bits, of_fields, div}
use mathlib.Core.Path.{refl}
use Rattle.path.proofs.nothing.Goals as goal

pub returns : goal.returns
unfolding of_bits of_fields div
returns c = refl
