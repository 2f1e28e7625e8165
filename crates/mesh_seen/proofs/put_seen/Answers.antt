-- `put_seen` meets its contract.
use Rattle.mesh_seen.proofs.Faces.{stored}
use Rattle.mesh_seen.proofs.put_seen.Goals as goal

pub returns : goal.returns
returns c =
    stored c.args.eye c.args.t c.args.f c.args.out.now _ _ _ _ _ _ _ c.twice_normalized-v.ensures c.sub.ensures c.dot.ensures
    c.put.ensures c.put-2.ensures c.put-3.ensures c.put-4.ensures
