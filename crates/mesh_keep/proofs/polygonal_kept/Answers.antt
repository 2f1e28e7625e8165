-- `polygonal_kept` meets its contract.
use mathlib.Core.Path.{◌∙◌}
use Rattle.mesh_keep.specs.Keep.{seen_in}
use Rattle.mesh_keep.proofs.Keeps.{few_kept, more-kept}
use Rattle.mesh_keep.proofs.polygonal_kept.Goals as goal

pub returns-then-sides-lt2 : goal.returns-then-sides-lt2
returns-then-sides-lt2 c = few_kept (seen_in c.args.seen.now) c.args.tolerance c.args.sides.now c.if-sides-lt2.true

pub returns : goal.returns
returns c = c.some_turns.ensures ∙ more-kept (seen_in c.args.seen.now) c.args.tolerance c.args.sides.now c.if-sides-lt2.false
