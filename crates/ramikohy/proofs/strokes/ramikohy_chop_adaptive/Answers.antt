-- `ramikohy_chop_adaptive` meets its contract, by that of `chop_adaptive`.
use mathlib.Core.Path.{ap}
use Rattle.path_adaptive.specs.Call.{said}
use Rattle.ramikohy.proofs.Calls.{wrote, refuse}
use Rattle.ramikohy.proofs.strokes.ramikohy_chop_adaptive.Goals as goal

pub returns-in-Ok : goal.returns-in-Ok
returns-in-Ok c = wrote _ (said c.chop_adaptive.result) _ _ (rw c.matrix.ensures at c.chop_adaptive.ensures) _ _ (ap said c.in-Ok.is)

pub returns-in-Err : goal.returns-in-Err
returns-in-Err c = refuse _ (said c.chop_adaptive.result) _ _ (rw c.matrix.ensures at c.chop_adaptive.ensures) _ c.in-Err.why c.number.ensures (ap said c.in-Err.is)
