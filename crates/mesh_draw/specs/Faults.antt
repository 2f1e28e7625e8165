-- What 7 and 10 are held to: together they are given where one number for every flat face would be, as document 01 has it, of the mode that a
-- number stands for now; and no face with two corners alike escapes.
use Rattle.std.specs.Prelude.{◌≡◌, Bool, false, cond, ◌&&◌, List, ℕ, ◌/◌, ◌<◌, length, eqb, Float}
use Rattle.refusal.specs.declared.Refusal.{Refusal}
use Rattle.refusal.specs.declared.Refusal.TheVariants.{Shape, Count, Vertex, Number, Scratch, Room}
use Rattle.refusal.specs.Refusals.{number_of, alike_number, no_length_number}
use Rattle.mesh.specs.Meshes.{face_at, shaped_of, counted_of, all_below}
use Rattle.mesh_mode.specs.Modes.{needs_of}
use Rattle.mesh_seen.specs.Normals.{alike_of}
use Rattle.mesh_seen.specs.Faults.{some_flat}
use Rattle.mesh_strokes.specs.Call.{scratch_for, room_for}
use Rattle.mesh_draw.specs.declared.Sight.{Sight}
use Rattle.mesh_strokes.specs.declared.Lengths.{Lengths}
use Rattle.mesh_draw.specs.Call.{mode_named, paired, numbers_good}

-- 10 read as 7
abbrev pub folded : ℕ → ℕ
folded n = cond (eqb n no_length_number) alike_number n

-- the next test's number, or the refusal's
abbrev pub tested : Bool → Refusal → ℕ → ℕ
tested holds r next = cond holds next (number_of r)

-- the number where 7 stands for every flat face: the last test is whether some face is flat, where the mode needs normals. A drawing with 0 was
-- one in triangles in document 01, and needed none; it is one in polygonal here.
unfoldable pub number_before : List Float → List ℕ → ℕ → Sight → Lengths → ℕ
number_before vs is flips s l =
    tested (shaped_of (length vs) (length is) && paired flips) Shape
    (tested (counted_of (length vs) (length is)) Count
    (tested (all_below (length vs / 3) is) Vertex
    (tested (numbers_good vs s) Number
    (tested (scratch_for (length is / 3) l.words l.seen) Scratch
    (tested (room_for (length is / 3) l.points l.starts) Room
    (cond ((needs_of (mode_named s.number s.cosine)).normals && some_flat (face_at vs is) 0 (length is / 3)) alike_number 0))))))

-- the first n faces have three different corners each
abbrev pub AllApart : List Float → List ℕ → ℕ → Type 0
AllApart vs is n = (f : ℕ) → f < n → alike_of (face_at vs is f) ≡ false
