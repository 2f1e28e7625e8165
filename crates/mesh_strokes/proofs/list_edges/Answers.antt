-- `list_edges` meets its contract.
use mathlib.Core.Path.{ap, ◌∙◌}
use Rattle.mesh_edges.specs.InnerWords.{edges_in}
use Rattle.mesh_strokes.proofs.Seens.{flips_needed, flips_spared}
use Rattle.mesh_strokes.proofs.list_edges.Goals as goal

pub returns-then-needs : goal.returns-then-needs
returns-then-needs c = c.edges.ensures ∙ ap (edges_in c.args.s.now c.args.indices.now) (flips_needed c.args.mode _ c.needs_of-needs.ensures c.if-needs.true c.args.flips.now)

pub returns : goal.returns
returns c = c.edges-2.ensures ∙ ap (edges_in c.args.s.now c.args.indices.now) (flips_spared c.args.mode _ c.needs_of-needs.ensures c.if-needs.false c.args.flips.now)
