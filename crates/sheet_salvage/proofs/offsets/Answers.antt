use Prim.Native.Nat.{◌*◌}
use Rattle.sheet.specs.Sheets.{header_words}
use native.Mathlib.Omega.{arith}
use Rattle.sheet_salvage.specs.Salvage.{offsets_by}
use Rattle.sheet_salvage.proofs.Starts.{changed-few}
use Rattle.sheet_salvage.proofs.offsets.Goals as goal

pub overflow_add-result : goal.overflow_add-result
overflow_add-result c =
    let a = changed-few c.word_at.result (4 * header_words) _ c.changed.ensures in
    let b = changed-few c.word_at-2.result (4 * c.numbers_from.result) _ c.changed-2.ensures in
    omega arith

pub returns : goal.returns
unfolding offsets_by
returns c = rw (← c.word_at.ensures, ← c.word_at-2.ensures, ← c.numbers_from.ensures, ← c.changed.ensures, ← c.changed-2.ensures)
