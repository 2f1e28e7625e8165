-- `twice_normalized` meets its contract.
use Rattle.mesh_seen.proofs.Normals.{twice}
use Rattle.mesh_seen.proofs.twice_normalized.Goals as goal

pub returns : goal.returns
returns c = twice c.args.t _ _ _ _ _ c.across-n.ensures c.length.ensures c.div_scalar-u.ensures c.length-2.ensures c.div_scalar.ensures
