-- `look` meets its contract.
use mathlib.Core.Path.{◌∙◌}
use Rattle.mesh.proofs.Tests.{all_reach}
use Rattle.mesh_seen.proofs.Faces.{seen_there}
use Rattle.mesh_strokes.proofs.Seens.{look_needed, look_spared}
use Rattle.mesh_strokes.proofs.look.Goals as goal

pub returns-then-needs : goal.returns-then-needs
returns-then-needs c =
    c.see.ensures ∙ seen_there c.args.mesh.vertices.now c.args.mesh.indices.now _ (all_reach _ c.args.mesh.indices.now c.args.mesh.below) c.args.eye c.args.seen.now
    ∙ look_needed c.args.mode _ c.needs_of-needs.ensures c.if-needs.true c.args.eye c.args.mesh.vertices.now c.args.mesh.indices.now c.args.seen.now

pub returns-else-needs : goal.returns-else-needs
returns-else-needs c = look_spared c.args.mode _ c.needs_of-needs.ensures c.if-needs.false c.args.eye c.args.mesh.vertices.now c.args.mesh.indices.now c.args.seen.now
