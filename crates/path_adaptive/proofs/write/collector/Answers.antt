-- `collector` meets its contract.
use Rattle.path_adaptive.proofs.Inks.{one-inks}
use Rattle.path_adaptive.proofs.write.collector.Goals as goal

pub returns : goal.returns
returns c = one-inks _ _ _ _ c.put_point.ensures
