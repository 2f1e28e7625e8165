-- `ramikohy_distance_squared` meets its contract, by those of what it calls.

use Rattle.ramikohy.proofs.ramikohy_distance_squared.Goals as goal

pub returns : goal.returns
returns c = rw (c.distance_squared.ensures, c.point-2.ensures, c.point.ensures)
