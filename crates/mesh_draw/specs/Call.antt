-- The call: when a drawing is refused, what it answers, and what it leaves.
use Rattle.std.specs.Prelude.{Ok}
use Rattle.std.specs.Prelude.{Bool, cond, ◌&&◌, List, ℕ, ◌/◌, ◌%◌, length, get_or, eqb, Float}
use Rattle.refusal.specs.declared.Refusal.TheVariants.{Shape, Count, Vertex, Number, Scratch, Room}
use Rattle.refusal.specs.Refusals.{Verdict}
use Rattle.refusal.specs.Refusals.{unless}
use Rattle.refusal.specs.Outcome.{Outcome, outcome}
use Rattle.vector.specs.declared.Vector.{Vector}
use Rattle.path.specs.Tests.{coordinates_good, tolerance_good}
use Rattle.mesh.specs.Meshes.{face_at, shaped_of, counted_of, all_below, vector_good}
use Rattle.mesh_mode.specs.declared.Mode.{Mode}
use Rattle.mesh_mode.specs.declared.Mode.TheVariants.{Triangles}
use Rattle.mesh_mode.specs.Modes.{needs_of, mode_of}
use Rattle.mesh_seen.specs.Seen.{flat_from}
use Rattle.mesh_strokes.specs.declared.Lengths.{Lengths}
use Rattle.mesh_draw.specs.declared.Sight.{Sight}
use Rattle.mesh_strokes.specs.Draw.{drawing_of}
use Rattle.mesh_strokes.specs.Call.{Lent, laid, scratch_for, room_for}

-- how a mesh is looked at
abbrev pub sight : ℕ → Float → Vector → Float → Sight
sight n cosine eye tolerance = record { number = n; cosine = cosine; eye = eye; tolerance = tolerance }

-- how long the lists are that are lent
abbrev pub lengths : ℕ → ℕ → ℕ → ℕ → Lengths
lengths words seen points starts = record { words = words; seen = seen; points = points; starts = starts }

abbrev pub lengths_of : Lent → Lengths
lengths_of l = lengths (length l.words) (length l.seen) (length l.points) (length l.starts)

-- whether a number names a mode, and which; a number that names none is refused
abbrev pub names_mode : ℕ → Float → Bool
names_mode number cosine = eqb (mode_of number cosine).number 0

abbrev pub mode_named : ℕ → Float → Mode
mode_named number cosine = get_or (mode_of number cosine).values 0 Triangles

-- so many numbers are a list of pairs
abbrev pub paired : ℕ → Bool
paired numbers = eqb (numbers % 2) 0

-- coordinates, mode with its cosine, eye and tolerance within their ranges
unfoldable pub numbers_good : List Float → Sight → Bool
numbers_good vs s = coordinates_good vs && names_mode s.number s.cosine && vector_good s.eye && tolerance_good s.tolerance

-- where a mode needs normals, the first face that has none is refused
unfoldable pub flat_in : Mode → List Float → List ℕ → Verdict
flat_in mode vs is = cond (needs_of mode).normals (flat_from (face_at vs is) 0 (length is / 3)) (Ok tt)

-- the tests of what a drawing works with and on
unfoldable pub work_verdict : List Float → List ℕ → Sight → Lengths → Verdict
work_verdict vs is s l =
    unless (numbers_good vs s) Number
    (unless (scratch_for (length is / 3) l.words l.seen) Scratch
    (unless (room_for (length is / 3) l.points l.starts) Room
    (flat_in (mode_named s.number s.cosine) vs is)))

-- those of a mesh, with its list of flips, come before them
unfoldable pub verdict_of : List Float → List ℕ → ℕ → Sight → Lengths → Verdict
verdict_of vs is flips s l =
    unless (shaped_of (length vs) (length is) && paired flips) Shape
    (unless (counted_of (length vs) (length is)) Count
    (unless (all_below (length vs / 3) is) Vertex
    (work_verdict vs is s l)))

unfoldable pub draw_left : List Float → List ℕ → List ℕ → Sight → Lent → Outcome Lent
draw_left vs is flips s l =
    outcome (verdict_of vs is (length flips) s (lengths_of l)) l
    (laid (drawing_of (mode_named s.number s.cosine) s.eye s.tolerance flips vs is) l.words l.seen l.points l.starts)
