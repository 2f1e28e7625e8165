-- `ramikohy_mul_scalar` meets its contract, by those of what it calls.

use Rattle.ramikohy.proofs.ramikohy_mul_scalar.Goals as goal

pub returns : goal.returns
returns c = rw (c.put.ensures, c.mul_scalar.ensures, c.point.ensures)
