-- `ramikohy_simplify` meets its contract, by that of `simplify`.
use mathlib.Core.Path.{ap}
use Rattle.path_simplify.specs.Call.{said}
use Rattle.ramikohy.proofs.Calls.{wrote, refuse}
use Rattle.ramikohy.proofs.strokes.ramikohy_simplify.Goals as goal

pub returns-in-Ok : goal.returns-in-Ok
returns-in-Ok c = wrote _ (said c.simplify.result) _ _ c.simplify.ensures _ _ (ap said c.in-Ok.is)

pub returns-in-Err : goal.returns-in-Err
returns-in-Err c = refuse _ (said c.simplify.result) _ _ c.simplify.ensures _ c.in-Err.why c.number.ensures (ap said c.in-Err.is)
