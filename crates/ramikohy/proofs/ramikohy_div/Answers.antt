-- `ramikohy_div` meets its contract, by those of what it calls.

use Rattle.ramikohy.proofs.ramikohy_div.Goals as goal

pub returns : goal.returns
returns c = rw (c.put.ensures, c.div.ensures, c.point-2.ensures, c.point.ensures)
