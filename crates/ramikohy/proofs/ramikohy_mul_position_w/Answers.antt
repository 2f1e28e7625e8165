-- `ramikohy_mul_position_w` meets its contract, by those of what it calls.

use Rattle.ramikohy.proofs.ramikohy_mul_position_w.Goals as goal

pub returns : goal.returns
returns c = rw (c.put.ensures, c.mul_position_w.ensures, c.point.ensures, c.matrix.ensures)
