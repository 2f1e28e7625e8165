-- A mode that nobody says is polygonal: writing a sheet with 0 is writing it with 2, every byte. proofs/Unsaid proves it.
use Rattle.std.specs.Prelude.{◌≡◌, List, ℕ}
use Rattle.sheet_write.specs.Call.{write_left}

abbrev pub UnsaidWrites : ℕ → List ℕ → List ℕ → List ℕ → Type 0
UnsaidWrites vertices ns ss out = write_left 0 vertices ns ss out ≡ write_left 2 vertices ns ss out
