-- `ramikohy_contour` meets its contract, by that of `contour`.
use mathlib.Core.Path.{ap}
use Rattle.path.specs.Call.{placed_said}
use Rattle.ramikohy.proofs.Calls.{wrote, refuse}
use Rattle.ramikohy.proofs.meshes.ramikohy_contour.Goals as goal

pub returns-in-Ok : goal.returns-in-Ok
returns-in-Ok c = rw (← c.point.ensures, ← c.point-2.ensures) (wrote _ (placed_said c.contour.result) _ _ c.contour.ensures _ _ (ap placed_said c.in-Ok.is))

pub returns-in-Err : goal.returns-in-Err
returns-in-Err c = rw (← c.point.ensures, ← c.point-2.ensures) (refuse _ (placed_said c.contour.result) _ _ c.contour.ensures _ c.in-Err.why c.number.ensures (ap placed_said c.in-Err.is))
