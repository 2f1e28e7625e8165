-- `corners_exact` meets its contract: each corner is a vertex.
use mathlib.Core.Path.{sym, ◌∙◌}
use Rattle.stl_write.proofs.Corners.{all_held}
use Rattle.stl_write.proofs.corners_exact.Goals as goal

pub returns-then-all_exact : goal.returns-then-all_exact
returns-then-all_exact c = sym (all_held c.args.mesh.vertices.now c.args.mesh.indices.now (sym c.all_exact.ensures ∙ c.if-all_exact.true) c.args.mesh.below)
