-- `ramikohy_weld` meets its contract, by that of `weld`.
use mathlib.Core.Path.{ap}
use Rattle.mesh_weld.specs.Call.{said}
use Rattle.ramikohy.proofs.Calls.{wrote, refuse}
use Rattle.ramikohy.proofs.meshes.ramikohy_weld.Goals as goal

pub returns-in-Ok : goal.returns-in-Ok
returns-in-Ok c = wrote _ (said c.weld.result) _ _ c.weld.ensures _ _ (ap said c.in-Ok.is)

pub returns-in-Err : goal.returns-in-Err
returns-in-Err c = refuse _ (said c.weld.result) _ _ c.weld.ensures _ c.in-Err.why c.number.ensures (ap said c.in-Err.is)
