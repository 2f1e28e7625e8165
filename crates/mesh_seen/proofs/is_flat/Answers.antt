-- `is_flat` meets its contract.
use Rattle.mesh_seen.proofs.Normals.{flat-square}
use Rattle.mesh_seen.proofs.is_flat.Goals as goal

pub returns : goal.returns
returns c = flat-square c.args.t _ _ c.across.ensures c.length_squared.ensures
