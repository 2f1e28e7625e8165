-- `flat_in` meets its contract.
use mathlib.Core.Path.{◌∙◌}
use Rattle.refusal.proofs.Unique.{one-verdict}
use Rattle.mesh.proofs.Tests.{all_reach}
use Rattle.mesh_seen.proofs.Faces.{flat-there}
use Rattle.mesh_draw.proofs.Modes.{flat-needed, flat-spared}
use Rattle.mesh_draw.proofs.flat_in.Goals as goal

pub returns-then-needs : goal.returns-then-needs
returns-then-needs c =
    one-verdict _ _ c.flat_verdict.ensures ∙ flat-there c.args.mesh.vertices.now c.args.mesh.indices.now _ (all_reach _ c.args.mesh.indices.now c.args.mesh.below)
    ∙ flat-needed c.args.mode _ c.needs_of-needs.ensures c.args.mesh.vertices.now c.args.mesh.indices.now c.if-needs.true

pub returns : goal.returns
returns c = flat-spared c.args.mode _ c.needs_of-needs.ensures c.args.mesh.vertices.now c.args.mesh.indices.now c.if-needs.false
