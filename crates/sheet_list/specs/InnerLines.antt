-- The vertex numbers of a line, by their places in the bytes.
use Rattle.std.specs.Prelude.{List, ℕ, ◌+◌, ◌-◌}
use Rattle.path.specs.Strokes.{gather}
use Rattle.sheet.specs.Sheets.{word_at, numbers_from}

-- the vertex number at a place, of a sheet of so many strokes, and those from a place up to another
abbrev pub number_in : List ℕ → ℕ → ℕ → ℕ
number_in bs strokes k = word_at bs (numbers_from strokes + k)

abbrev pub numbers_at : List ℕ → ℕ → ℕ → ℕ → List ℕ
numbers_at bs strokes a e = gather (number_in bs strokes) a (e - a)
