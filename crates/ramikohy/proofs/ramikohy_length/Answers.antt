-- `ramikohy_length` meets its contract, by those of what it calls.

use Rattle.ramikohy.proofs.ramikohy_length.Goals as goal

pub returns : goal.returns
returns c = rw (c.length.ensures, c.point.ensures)
