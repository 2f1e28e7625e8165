-- What a drawing is lent, and what drawing into room that is there leaves.
use Rattle.std.specs.Prelude.{Bool, ◌&&◌, cond, List, [], ◌∷◌, ℕ, ◌*◌, ◌/◌, ◌%◌, length, replicate, leb, eqb, Float}
use Rattle.refusal.specs.Limits.{most_faces}
use Rattle.refusal.specs.Said.{Said, accepted}
use Rattle.refusal.specs.Outcome.{Outcome, leaves}
use Rattle.vector.specs.declared.Vector.{Vector}
use Rattle.vector.specs.Lengths.{zero64}
use Rattle.path.specs.Laid.{over, joined, starts_from}
use Rattle.mesh.specs.Meshes.{all_below}
use Rattle.mesh_mode.specs.declared.Mode.{Mode}
use Rattle.mesh_strokes.specs.Draw.{drawing_of}

pub record Lent : Type 0 where
  pub words : List ℕ
  pub seen : List Float
  pub points : List ℕ
  pub starts : List ℕ

abbrev pub lent : List ℕ → List Float → List ℕ → List ℕ → Lent
lent s f op os = record { words = s; seen = f; points = op; starts = os }

abbrev pub left : Said ℕ → List ℕ → List Float → List ℕ → List ℕ → Outcome Lent
left a s f op os = leaves a (lent s f op os)

-- scratch all zero, the strokes' points in a row, the start of each, and the rest as it was
unfoldable pub laid : List (List ℕ) → List ℕ → List Float → List ℕ → List ℕ → Outcome Lent
laid ss s f op os = left (accepted (length (joined ss) ∷ length ss ∷ [])) (replicate (length s) 0) (replicate (length f) zero64) (over op (joined ss)) (over os (starts_from 0 ss))

-- 64 words and 4 numbers of scratch a face
unfoldable pub scratch_for : ℕ → ℕ → ℕ → Bool
scratch_for faces words numbers = leb (64 * faces) words && leb (4 * faces) numbers

-- room for 6 points and 3 starts a face
unfoldable pub room_for : ℕ → ℕ → ℕ → Bool
room_for faces room start_room = leb (6 * faces) room && leb (3 * faces) start_room

-- so many indices are faces, not too many, and all has room
unfoldable pub fits : ℕ → ℕ → ℕ → ℕ → ℕ → Bool
fits indices words numbers room start_room = eqb (indices % 3) 0 && leb (indices / 3) most_faces && scratch_for (indices / 3) words numbers && room_for (indices / 3) room start_room

-- a drawing; nothing is changed where it does not fit, or where an index is that of no vertex
unfoldable pub strokes_left : List Float → List ℕ → List ℕ → Mode → Vector → Float → List ℕ → List Float → List ℕ → List ℕ → Outcome Lent
strokes_left vs is flips mode eye tolerance s f op os =
    cond (fits (length is) (length s) (length f) (length op) (length os) && all_below (length vs / 3) is) (laid (drawing_of mode eye tolerance flips vs is) s f op os) (left (accepted (0 ∷ 0 ∷ [])) s f op os)
