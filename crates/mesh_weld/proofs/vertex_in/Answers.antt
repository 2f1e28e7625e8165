-- `vertex_in` meets its contract: its three numbers are there.
use mathlib.Core.Path.{refl}
use Rattle.path.specs.Strokes.{point_at}
use Rattle.mesh_weld.proofs.vertex_in.Goals as goal

pub returns : goal.returns
unfolding point_at
returns c = refl
