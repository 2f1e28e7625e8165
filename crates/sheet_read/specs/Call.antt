-- Reading a sheet: when it is refused, what it answers, and what it leaves in the lists lent to it.
use Rattle.std.specs.Prelude.{Result, Ok, Bool, ◌&&◌, List, [], ◌∷◌, ℕ, length, leb}
use Rattle.refusal.specs.declared.Refusal.{Refusal}
use Rattle.refusal.specs.declared.Refusal.TheVariants.{Room, Sheet}
use Rattle.refusal.specs.Refusals.{Verdict}
use Rattle.refusal.specs.Refusals.{unless}
use Rattle.refusal.specs.Said.{Said, accepted, said_by}
use Rattle.refusal.specs.Outcome.{Outcome, leaves, outcome}
use Rattle.path.specs.Laid.{over}
use Rattle.sheet.specs.Sheets.{mode_in, vertices_in, stroke_count, point_count, starts_in, numbers_in, is_sheet}
use Rattle.sheet_read.specs.declared.SheetRead.{SheetRead}

-- room for the points and strokes in the header
unfoldable pub room_for : List ℕ → ℕ → ℕ → Bool
room_for bs room start_room = leb (point_count bs) room && leb (stroke_count bs) start_room

-- bytes that are no sheet are tested before room
unfoldable pub verdict_of : List ℕ → ℕ → ℕ → Verdict
verdict_of bs room start_room = unless (is_sheet bs) Sheet (unless (room_for bs room start_room) Room (Ok tt))

-- the answer's number and values: points and starts written, mode and vertices
abbrev pub said : Result SheetRead Refusal → Said ℕ
said r = said_by (λ p. p.points ∷ p.starts ∷ p.mode ∷ p.vertices ∷ []) r

pub record Lent : Type 0 where
  pub numbers : List ℕ
  pub starts : List ℕ

abbrev pub lent : List ℕ → List ℕ → Lent
lent ns ss = record { numbers = ns; starts = ss }

abbrev pub left : Said ℕ → List ℕ → List ℕ → Outcome Lent
left a ns ss = leaves a (lent ns ss)

-- accepted: the sheet's numbers and starts, and the rest of both lists as it was
unfoldable pub laid : List ℕ → List ℕ → List ℕ → Outcome Lent
laid bs on os = left (accepted (point_count bs ∷ stroke_count bs ∷ mode_in bs ∷ vertices_in bs ∷ [])) (over on (numbers_in bs)) (over os (starts_in bs))

unfoldable pub read_left : List ℕ → List ℕ → List ℕ → Outcome Lent
read_left bs on os = outcome (verdict_of bs (length on) (length os)) (lent on os) (laid bs on os)
