-- `ramikohy_write_sheet` meets its contract, by that of `write_sheet`.
use mathlib.Core.Path.{ap}
use Rattle.refusal.specs.Said.{value_said}
use Rattle.ramikohy.proofs.Calls.{wrote, refuse}
use Rattle.ramikohy.proofs.sheets.ramikohy_write_sheet.Goals as goal

pub returns-in-Ok : goal.returns-in-Ok
returns-in-Ok c = wrote _ (value_said c.write_sheet.result) _ _ c.write_sheet.ensures _ _ (ap value_said c.in-Ok.is)

pub returns-in-Err : goal.returns-in-Err
returns-in-Err c = refuse _ (value_said c.write_sheet.result) _ _ c.write_sheet.ensures _ c.in-Err.why c.number.ensures (ap value_said c.in-Err.is)
