-- What a contour answers and leaves in the four lists lent to it.
use Rattle.std.specs.Prelude.{Ok}
use Rattle.std.specs.Prelude.{Bool, ◌&&◌, List, [], ◌∷◌, ℕ, ◌*◌, ◌/◌, length, replicate, leb, Float}
use Rattle.refusal.specs.declared.Refusal.TheVariants.{Shape, Count, Vertex, Number, Scratch, Room}
use Rattle.refusal.specs.Refusals.{Verdict}
use Rattle.refusal.specs.Refusals.{unless}
use Rattle.refusal.specs.Said.{Said, accepted}
use Rattle.refusal.specs.Outcome.{Outcome, leaves, outcome}
use Rattle.vector.specs.declared.Vector.{Vector}
use Rattle.vector.specs.Lengths.{zero64}
use Rattle.path.specs.Laid.{over, joined, starts_from, flat}
use Rattle.mesh.specs.Meshes.{shaped_of, counted_of, all_below}
use Rattle.mesh_section.specs.declared.Plane.{Plane}
use Rattle.mesh_section.specs.Call.{numbers_good, room_for}
use Rattle.mesh_contour.specs.Contour.{contour_of}

pub record Lent : Type 0 where
  pub words : List ℕ
  pub numbers : List Float
  pub points : List Float
  pub starts : List ℕ

abbrev pub lent : List ℕ → List Float → List Float → List ℕ → Lent
lent s f op os = record { words = s; numbers = f; points = op; starts = os }

abbrev pub left : Said ℕ → List ℕ → List Float → List Float → List ℕ → Outcome Lent
left a s f op os = leaves a (lent s f op os)

-- scratch all zero, the strokes' points in a row, the start of each, and the rest as it was
unfoldable pub laid : List (List Vector) → List ℕ → List Float → List Float → List ℕ → Outcome Lent
laid ss s f op os =
    left (accepted (length (joined ss) ∷ length ss ∷ [])) (replicate (length s) 0) (replicate (length f) zero64) (over op (flat (joined ss))) (over os (starts_from 0 ss))

-- 16 words and 8 numbers of scratch a face
unfoldable pub scratch_for : ℕ → ℕ → ℕ → Bool
scratch_for faces words numbers = leb (16 * faces) words && leb (8 * faces) numbers

-- the old section's tests, its room too, and scratch before room
unfoldable pub verdict_of : List Float → List ℕ → Plane → Float → ℕ → ℕ → ℕ → ℕ → Verdict
verdict_of vs is p tolerance words numbers room start_room =
    unless (shaped_of (length vs) (length is)) Shape
    (unless (counted_of (length vs) (length is)) Count
    (unless (all_below (length vs / 3) is) Vertex
    (unless (numbers_good vs p tolerance) Number
    (unless (scratch_for (length is / 3) words numbers) Scratch
    (unless (room_for (length is / 3) room start_room) Room
    (Ok tt))))))

unfoldable pub contour_left : List Float → List ℕ → Plane → Float → List ℕ → List Float → List Float → List ℕ → Outcome Lent
contour_left vs is p tolerance s f op os =
    outcome (verdict_of vs is p tolerance (length s) (length f) (length op) (length os)) (lent s f op os) (laid (contour_of vs is p tolerance) s f op os)
