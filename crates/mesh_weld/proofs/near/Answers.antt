-- `near` meets its contract: a difference that parts the points decides, else the squares do.
use mathlib.Core.Path.{sym, ◌∙◌}
use Rattle.mesh_weld.specs.Weld.{near}
use Rattle.mesh_weld.proofs.Differences.{x_parts, y_parts, z_parts}
use Rattle.mesh_weld.proofs.near.Goals as goal

pub returns-then-apart : goal.returns-then-apart
returns-then-apart c = x_parts c.args.p c.args.v c.sub-d.result c.sub-d.ensures (sym c.apart.ensures ∙ c.if-apart.true)

pub returns-then-apart-2 : goal.returns-then-apart-2
returns-then-apart-2 c = y_parts c.args.p c.args.v c.sub-d.result c.sub-d.ensures (sym c.apart-2.ensures ∙ c.if-apart-2.true)

pub returns-then-apart-3 : goal.returns-then-apart-3
returns-then-apart-3 c = z_parts c.args.p c.args.v c.sub-d.result c.sub-d.ensures (sym c.apart-3.ensures ∙ c.if-apart-3.true)

pub returns : goal.returns
unfolding near
returns c = rw (c.length_squared.ensures, c.sub-d.ensures)
