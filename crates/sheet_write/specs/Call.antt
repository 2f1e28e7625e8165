-- Writing a sheet: when it is refused, what it answers, and what it leaves in the bytes lent to it.
use Rattle.std.specs.Prelude.{Ok}
use Rattle.std.specs.Prelude.{List, [], ◌∷◌, ℕ, length, leb, ltb}
use Rattle.refusal.specs.declared.Refusal.TheVariants.{Shape, Count, Vertex, Number, Room}
use Rattle.refusal.specs.Refusals.{Verdict}
use Rattle.refusal.specs.Refusals.{unless}
use Rattle.refusal.specs.Said.{Said, accepted}
use Rattle.refusal.specs.Outcome.{Outcome, leaves, outcome}
use Rattle.path.specs.Strokes.{good_starts, strokes_in}
use Rattle.path.specs.Laid.{over, non_empty}
use Rattle.mesh.specs.Meshes.{all_below}
use Rattle.sheet.specs.Sheets.{mode_word, sheet_of, size_of, counts_good}

-- the lowest refusal that applies: a table of starts, the limits, numbers below the vertex count, a mode, and room for the whole sheet
unfoldable pub verdict_of : ℕ → ℕ → List ℕ → List ℕ → ℕ → Verdict
verdict_of mode vertices ns ss room =
    unless (good_starts (length ns) ss) Shape
    (unless (counts_good vertices (length ss) (length ns)) Count
    (unless (all_below vertices ns) Vertex
    (unless (ltb 0 (mode_word mode)) Number
    (unless (leb (size_of (length (non_empty (strokes_in ns ss))) (length ns)) room) Room
    (Ok tt)))))

pub record Lent : Type 0 where
  pub bytes : List ℕ

abbrev pub lent : List ℕ → Lent
lent bs = record { bytes = bs }

abbrev pub left : Said ℕ → List ℕ → Outcome Lent
left a bs = leaves a (lent bs)

-- accepted: the sheet, and the rest as it was
unfoldable pub laid : List ℕ → List ℕ → Outcome Lent
laid sheet out = left (accepted (length sheet ∷ [])) (over out sheet)

unfoldable pub write_left : ℕ → ℕ → List ℕ → List ℕ → List ℕ → Outcome Lent
write_left mode vertices ns ss out = outcome (verdict_of mode vertices ns ss (length out)) (lent out) (laid (sheet_of (mode_word mode) vertices (strokes_in ns ss)) out)
