-- `ramikohy_dot` meets its contract, by those of what it calls.

use Rattle.ramikohy.proofs.ramikohy_dot.Goals as goal

pub returns : goal.returns
returns c = rw (c.dot.ensures, c.point-2.ensures, c.point.ensures)
