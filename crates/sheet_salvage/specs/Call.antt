-- Salvaging a sheet: when it is refused, what it answers, and what it leaves in the bytes lent to it.
use Rattle.std.specs.Prelude.{Result, Ok, List, [], ◌∷◌, ℕ, length, leb}
use Rattle.refusal.specs.Limits.{most_strokes}
use Rattle.refusal.specs.declared.Refusal.{Refusal}
use Rattle.refusal.specs.declared.Refusal.TheVariants.{Count, Room, Sheet}
use Rattle.refusal.specs.Refusals.{Verdict}
use Rattle.refusal.specs.Refusals.{unless}
use Rattle.refusal.specs.Said.{Said, accepted, said_by}
use Rattle.refusal.specs.Outcome.{Outcome, leaves, outcome}
use Rattle.path.specs.Laid.{over, joined}
use Rattle.sheet.specs.Sheets.{mode_in, vertices_in, sheet_of, size_of}
use Rattle.sheet_salvage.specs.Salvage.{header_usable, saved_in, offsets_changed, starts_ignored, wild_in, leftovers_in}
use Rattle.sheet_salvage.specs.declared.Salvaged.{Salvaged}

-- of what is kept: too many strokes are tested before room
unfoldable pub kept_verdict : ℕ → ℕ → ℕ → Verdict
kept_verdict strokes points room = unless (leb strokes most_strokes) Count (unless (leb (size_of strokes points) room) Room (Ok tt))

-- a header that cannot be gone by is tested first
unfoldable pub verdict_of : List ℕ → ℕ → Verdict
verdict_of bs room = unless (header_usable bs) Sheet (kept_verdict (length (saved_in bs)) (length (joined (saved_in bs))) room)

-- the answer's number and values: bytes written, offsets changed, starts ignored, points dropped for their number, leftovers
abbrev pub said : Result Salvaged Refusal → Said ℕ
said r = said_by (λ s. s.bytes ∷ s.offsets ∷ s.starts ∷ s.numbers ∷ s.leftovers ∷ []) r

pub record Lent : Type 0 where
  pub bytes : List ℕ

abbrev pub lent : List ℕ → Lent
lent bs = record { bytes = bs }

abbrev pub left : Said ℕ → List ℕ → Outcome Lent
left a bs = leaves a (lent bs)

-- the sheet that is written
unfoldable pub salvaged : List ℕ → List ℕ
salvaged bs = sheet_of (mode_in bs) (vertices_in bs) (saved_in bs)

unfoldable pub reported : List ℕ → Said ℕ
reported bs = accepted (length (salvaged bs) ∷ offsets_changed bs ∷ starts_ignored bs ∷ wild_in bs ∷ leftovers_in bs ∷ [])

-- accepted: the sheet, and the rest as it was
unfoldable pub laid : List ℕ → List ℕ → Outcome Lent
laid bs out = left (reported bs) (over out (salvaged bs))

unfoldable pub salvage_left : List ℕ → List ℕ → Outcome Lent
salvage_left bs out = outcome (verdict_of bs (length out)) (lent out) (laid bs out)
