-- `cut_in` meets its contract.
use Rattle.mesh_contour_rule.specs.Contour.{corner_of}
use Rattle.mesh_contour.proofs.Segments.{face-cut}
use Rattle.mesh_contour.proofs.cut_in.Goals as goal

pub returns : goal.returns
returns c = face-cut (corner_of c.args.plane c.args.tolerance c.args.mesh.vertices.now c.args.mesh.indices.now) c.args.f c.cut_face.ensures c.corner_in-3.ensures c.corner_in-2.ensures c.corner_in.ensures
