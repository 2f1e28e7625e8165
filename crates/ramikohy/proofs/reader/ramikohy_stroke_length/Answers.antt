-- `ramikohy_stroke_length` meets its contract, by that of `stroke_at`.
use mathlib.Core.Path.{ap}
use lib.ListN.{length}
use Rattle.ramikohy.proofs.reader.ramikohy_stroke_length.Goals as goal

pub returns : goal.returns
returns c = ap length c.stroke_at.ensures.holds
