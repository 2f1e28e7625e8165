-- Writing a sheet with 0 is writing it with 2.
use mathlib.Core.Path.{refl}
use mathlib.Core.List.{List}
use Prim.Native.Nat.{ℕ}
use Rattle.sheet.specs.Sheets.{mode_good, mode_word}
use Rattle.sheet_write.specs.Call.{verdict_of, write_left}
use Rattle.sheet_write.specs.Unsaid.{UnsaidWrites}

pub unsaid_writes : (vertices : ℕ) (ns ss out : List ℕ) → UnsaidWrites vertices ns ss out
unfolding write_left verdict_of mode_word mode_good
unsaid_writes vertices ns ss out = refl
