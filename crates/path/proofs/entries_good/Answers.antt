-- `entries_good` meets its contract: its bound is a power of two.
use mathlib.Core.Path.{refl}
use lib.Ieee.{of_bits}
use Rattle.path.specs.Tests.{entries_good}
use Rattle.path.proofs.entries_good.Goals as goal

pub all_within-requires : goal.all_within-requires
unfolding of_bits
all_within-requires c = record { power = 20; is = refl }

pub returns : goal.returns
unfolding entries_good
returns c = c.all_within.ensures
