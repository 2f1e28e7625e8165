-- `ramikohy_sub` meets its contract, by those of what it calls.

use Rattle.ramikohy.proofs.ramikohy_sub.Goals as goal

pub returns : goal.returns
returns c = rw (c.put.ensures, c.sub.ensures, c.point-2.ensures, c.point.ensures)
