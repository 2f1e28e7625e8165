-- `ramikohy_read_sheet` meets its contract, by that of `read_sheet`.
use mathlib.Core.Path.{ap}
use Rattle.sheet_read.specs.Call.{said}
use Rattle.ramikohy.proofs.Calls.{wrote, refuse}
use Rattle.ramikohy.proofs.sheets.ramikohy_read_sheet.Goals as goal

pub returns-in-Ok : goal.returns-in-Ok
returns-in-Ok c = wrote _ (said c.read_sheet.result) _ _ c.read_sheet.ensures _ _ (ap said c.in-Ok.is)

pub returns-in-Err : goal.returns-in-Err
returns-in-Err c = refuse _ (said c.read_sheet.result) _ _ c.read_sheet.ensures _ c.in-Err.why c.number.ensures (ap said c.in-Err.is)
