-- `ramikohy_chop` meets its contract, by that of `chop`.
use mathlib.Core.Path.{ap}
use Rattle.path.specs.Call.{placed_said}
use Rattle.ramikohy.proofs.Calls.{wrote, refuse}
use Rattle.ramikohy.proofs.strokes.ramikohy_chop.Goals as goal

pub returns-in-Ok : goal.returns-in-Ok
returns-in-Ok c = wrote _ (placed_said c.chop.result) _ _ c.chop.ensures _ _ (ap placed_said c.in-Ok.is)

pub returns-in-Err : goal.returns-in-Err
returns-in-Err c = refuse _ (placed_said c.chop.result) _ _ c.chop.ensures _ c.in-Err.why c.number.ensures (ap placed_said c.in-Err.is)
