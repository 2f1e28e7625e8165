-- What salvage promises: of what the call leaves (`Unchanged`, `LosesTail`), and of the definitions that say what it leaves. proofs/Theorem proves
-- it of all bytes.
use Rattle.std.specs.Prelude.{Ok}
use Rattle.std.specs.Prelude.{◌≡◌, true, cond, List, [], ◌∷◌, ℕ, ◌+◌, ◌-◌, ◌*◌, ◌/◌, ◌≤◌, length, take, ltb, eqb}
use Rattle.refusal.specs.Each.{Each}
use Rattle.refusal.specs.Said.{accepted}
use Rattle.path.specs.Strokes.{gather, strokes_of, number_at}
use Rattle.path.specs.Laid.{over, joined}
use Rattle.mesh.specs.Meshes.{all_below}
use Rattle.sheet.specs.Sheets.{numbers_from, mode_in, vertices_in, stroke_count, starts_in, numbers_in, sheet_of, is_sheet}
use Rattle.sheet_salvage.specs.Salvage.{taken_count, point_in, saved_in, wild_in, leftovers_in}
use Rattle.sheet_salvage.specs.Call.{left, verdict_of, salvaged, salvage_left}

-- lists of bytes
abbrev pub Bytes : List ℕ → Type 0
Bytes bs = all_below 256 bs ≡ true

-- bytes written as they are, with four zeros, wherever they fit
abbrev pub Unchanged : List ℕ → Type 0
Unchanged bs = (out : List ℕ) → length bs ≤ length out → salvage_left bs out ≡ left (accepted (length bs ∷ 0 ∷ 0 ∷ 0 ∷ 0 ∷ [])) (over out bs)

-- what is written is a sheet, and salvaged again it is written as it is
abbrev pub WritesSheets : List ℕ → ℕ → Type 0
WritesSheets bs room = verdict_of bs room ≡ (Ok tt) → (is_sheet (salvaged bs) ≡ true) × Unchanged (salvaged bs)

-- a sheet is written as it is
abbrev pub KeepsSheets : List ℕ → Type 0
KeepsSheets bs = Bytes bs → is_sheet bs ≡ true → Unchanged bs

-- every point taken is written, dropped for its number, or a leftover
abbrev pub CountsAll : List ℕ → Type 0
CountsAll bs = taken_count bs ≡ length (joined (saved_in bs)) + wild_in bs + leftovers_in bs

-- a run of neighbours among m points
pub record Run (at : ℕ → ℕ) (m : ℕ) (s : List ℕ) : Type 0 where
  pub first : ℕ
  pub within : first + length s ≤ m
  pub same : s ≡ gather at first (length s)

-- each stroke written is one of the points taken
abbrev pub InventsNothing : List ℕ → Type 0
InventsNothing bs = Each (Run (point_in bs) (taken_count bs)) (saved_in bs)

-- the starts below m
unfoldable pub starts_below : ℕ → List ℕ → List ℕ
starts_below m [] = []
starts_below m (s ∷ ss) = cond (ltb s m) (s ∷ starts_below m ss) (starts_below m ss)

-- how many points the first k bytes of a sheet hold
abbrev pub points_held : List ℕ → ℕ → ℕ
points_held bs k = k / 4 - numbers_from (stroke_count bs)

-- what is left of a sheet of which the first k bytes are there: mode and vertices, the points held, and the strokes that have some of them
unfoldable pub front_of : List ℕ → ℕ → List ℕ
front_of bs k = sheet_of (mode_in bs) (vertices_in bs) (strokes_of (number_at (numbers_in bs)) (points_held bs k) (starts_below (points_held bs k) (starts_in bs)))

-- how many strokes have none
abbrev pub strokes_lost : List ℕ → ℕ → ℕ
strokes_lost bs k = stroke_count bs - length (starts_below (points_held bs k) (starts_in bs))

-- a sheet cut off at k bytes, anywhere behind its starts, loses only its tail: the starts of strokes that are lost are ignored, and with some the
-- numbers have another offset; no point is dropped
abbrev pub LosesTail : List ℕ → ℕ → Type 0
LosesTail bs k = is_sheet bs ≡ true → 4 * numbers_from (stroke_count bs) ≤ k → k ≤ length bs → (out : List ℕ) → k ≤ length out
    → salvage_left (take k bs) out ≡ left (accepted (length (front_of bs k) ∷ cond (eqb (strokes_lost bs k) 0) 0 1 ∷ strokes_lost bs k ∷ 0 ∷ 0 ∷ [])) (over out (front_of bs k))

-- room for as many bytes as are given is always enough
abbrev pub FitsItsOwn : List ℕ → Type 0
FitsItsOwn bs = 4 * numbers_from (stroke_count bs) ≤ length bs → length (salvaged bs) ≤ length bs
