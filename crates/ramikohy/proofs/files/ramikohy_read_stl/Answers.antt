-- `ramikohy_read_stl` meets its contract, by that of `read_stl`.
use mathlib.Core.Path.{ap}
use Rattle.mesh_weld.specs.Call.{said}
use Rattle.ramikohy.proofs.Calls.{wrote, refuse}
use Rattle.ramikohy.proofs.files.ramikohy_read_stl.Goals as goal

pub returns-in-Ok : goal.returns-in-Ok
returns-in-Ok c = wrote _ (said c.read_stl.result) _ _ c.read_stl.ensures _ _ (ap said c.in-Ok.is)

pub returns-in-Err : goal.returns-in-Err
returns-in-Err c = refuse _ (said c.read_stl.result) _ _ c.read_stl.ensures _ c.in-Err.why c.number.ensures (ap said c.in-Err.is)
