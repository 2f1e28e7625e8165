-- `counted` meets its contract: a number so small fits when it is counted up, and is not negative then.
use Rattle.mesh_weld.proofs.Cells.{read, back}
use Rattle.mesh_weld.proofs.Cells.{back}
use Rattle.mesh_weld.proofs.counted.Goals as goal

pub returns : goal.returns
returns c = rw (read c.args.z c.requires, back c.args.z c.requires)
