-- `ramikohy_length_squared` meets its contract, by those of what it calls.

use Rattle.ramikohy.proofs.ramikohy_length_squared.Goals as goal

pub returns : goal.returns
returns c = rw (c.length_squared.ensures, c.point.ensures)
