-- `folded` meets its contract: two halves add up without wrapping.
use mathlib.Core.Path.{refl}
use native.Mathlib.Omega.{arith}
use Rattle.mesh_weld.specs.InnerTable.{folded_of}
use Rattle.mesh_weld.proofs.folded.Goals as goal

pub returns : goal.returns
unfolding folded_of
returns c = (refl, omega arith)
