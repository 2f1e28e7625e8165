-- `apart` meets its contract: by its two tests.
use Rattle.mesh_weld.proofs.Differences.{up_parts, down-parts}
use Rattle.mesh_weld.proofs.apart.Goals as goal

pub returns-then-d : goal.returns-then-d
returns-then-d c = up_parts c.args.d c.if-d.true

pub returns : goal.returns
returns c = down-parts c.args.d c.if-d.false
