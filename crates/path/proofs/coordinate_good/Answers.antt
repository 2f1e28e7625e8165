-- `coordinate_good` meets its contract: its bound is a power of two.
use mathlib.Core.Path.{refl}
use lib.Ieee.{of_bits}
use Rattle.path.proofs.coordinate_good.Goals as goal

pub within-requires : goal.within-requires
unfolding of_bits
within-requires c = record { power = 20; is = refl }

pub returns : goal.returns
returns c = c.within.ensures
