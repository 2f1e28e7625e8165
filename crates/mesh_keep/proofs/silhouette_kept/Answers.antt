-- `silhouette_kept` meets its contract.
use native.Mathlib.Omega.{arith}
use mathlib.Core.Path.{◌∙◌}
use Rattle.vector.specs.Lengths.{zero64}
use Rattle.mesh_keep.specs.Keep.{seen_in}
use Rattle.mesh_keep.proofs.Keeps.{not_two_kept, two-are_kept}
use Rattle.mesh_keep.proofs.silhouette_kept.Goals as goal

pub returns-then-sides-ne2 : goal.returns-then-sides-ne2
returns-then-sides-ne2 c = not_two_kept (seen_in c.args.seen.now) c.args.flip c.args.cos_theta zero64 c.args.sides.now c.if-sides-ne2.true

pub returns : goal.returns
returns c = c.two_kept.ensures ∙ two-are_kept (seen_in c.args.seen.now) c.args.flip c.args.cos_theta zero64 c.args.sides.now (omega arith)
