-- `corner` of a file's bytes meets its contract: the corner is where its coordinates are.
use mathlib.Core.Path.{◌∙◌}
use native.Mathlib.Omega.{arith}
use Rattle.stl.proofs.Corners.{length-coordinates, corner_point}
use Rattle.mesh_weld.proofs.read.RefSliceU8Corners.corner.Goals as goal

pub returns : goal.returns
returns c = c.corner_in.ensures ∙ corner_point c.args.self.now c.args.i (omega (arith, c.requires, length-coordinates c.args.self.now))
