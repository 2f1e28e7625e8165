-- `coarse_of` meets its contract: its three halves are those of the definition.
use mathlib.Core.Path.{refl}
use Rattle.mesh_weld.specs.InnerTable.{coarse_of}
use Rattle.mesh_weld.proofs.coarse_of.Goals as goal

pub returns : goal.returns
unfolding coarse_of
returns c = refl
