-- `flag_pair` meets its contract.
use Rattle.mesh_edges.proofs.Flipping.{three-sides}
use Rattle.mesh_edges.proofs.flag_pair.Goals as goal

pub returns : goal.returns
returns c = three-sides c.args.s.now c.args.n c.requires c.args.x c.args.y _ _ _ c.flag_side.ensures c.flag_side-2.ensures c.flag_side-3.ensures
