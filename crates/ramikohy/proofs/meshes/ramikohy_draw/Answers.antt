-- `ramikohy_draw` meets its contract, by that of `draw`.
use mathlib.Core.Path.{ap}
use Rattle.path.specs.Call.{placed_said}
use Rattle.ramikohy.proofs.Calls.{wrote-faced, refuse-faced}
use Rattle.ramikohy.proofs.meshes.ramikohy_draw.Goals as goal

pub returns-in-Ok : goal.returns-in-Ok
returns-in-Ok c = rw (← c.point-e.ensures) (wrote-faced _ (placed_said c.draw.result) _ _ c.draw.ensures _ _ _ (ap placed_said c.in-Ok.is))

pub returns-in-Err : goal.returns-in-Err
returns-in-Err c = rw (← c.point-e.ensures) (refuse-faced _ (placed_said c.draw.result) _ _ c.draw.ensures _ _ c.in-Err.why _ c.told.ensures.0 c.told.ensures.1 (ap placed_said c.in-Err.is))
