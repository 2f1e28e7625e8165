-- `ramikohy_distance` meets its contract, by those of what it calls.

use Rattle.ramikohy.proofs.ramikohy_distance.Goals as goal

pub returns : goal.returns
returns c = rw (c.distance.ensures, c.point-2.ensures, c.point.ensures)
