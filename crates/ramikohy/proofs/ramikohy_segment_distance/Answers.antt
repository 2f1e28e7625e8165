-- `ramikohy_segment_distance` meets its contract, by those of what it calls.

use Rattle.ramikohy.proofs.ramikohy_segment_distance.Goals as goal

pub returns : goal.returns
returns c = rw (c.segment_distance.ensures, c.point-3.ensures, c.point-2.ensures, c.point.ensures)
