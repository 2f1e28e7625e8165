-- `ramikohy_cross` meets its contract, by those of what it calls.

use Rattle.ramikohy.proofs.ramikohy_cross.Goals as goal

pub returns : goal.returns
returns c = rw (c.put.ensures, c.cross.ensures, c.point-2.ensures, c.point.ensures)
