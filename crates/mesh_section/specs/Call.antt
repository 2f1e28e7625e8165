-- What a section answers and leaves in the two lists lent to it.
use Rattle.std.specs.Prelude.{Ok}
use Rattle.std.specs.Prelude.{Bool, ◌&&◌, List, [], ℕ, ◌*◌, ◌/◌, length, leb, Float}
use Rattle.refusal.specs.declared.Refusal.TheVariants.{Shape, Count, Vertex, Number, Room}
use Rattle.refusal.specs.Refusals.{Verdict}
use Rattle.refusal.specs.Refusals.{unless}
use Rattle.refusal.specs.Outcome.{Outcome, outcome}
use Rattle.path.specs.Tests.{coordinates_good, tolerance_good}
use Rattle.path.specs.Call.{Lent, lent, laid}
use Rattle.mesh.specs.Meshes.{shaped_of, counted_of, all_below, mesh_verdict, vector_good}
use Rattle.mesh_section.specs.declared.Plane.{Plane}
use Rattle.mesh_section.specs.Section.{section_of}

-- coordinates, plane and tolerance within their ranges
unfoldable pub numbers_good : List Float → Plane → Float → Bool
numbers_good vs p tolerance = coordinates_good vs && vector_good p.point && vector_good p.normal && tolerance_good tolerance

-- room for two points and a start a face
unfoldable pub room_for : ℕ → ℕ → ℕ → Bool
room_for faces room start_room = leb (faces * 6) room && leb faces start_room

-- the tests that a section shares with a contour, before those that follow
unfoldable pub cut_verdict : List Float → List ℕ → Plane → Float → Verdict → Verdict
cut_verdict vs is p tolerance next = mesh_verdict vs is (unless (numbers_good vs p tolerance) Number next)

unfoldable pub verdict_of : List Float → List ℕ → Plane → Float → ℕ → ℕ → Verdict
verdict_of vs is p tolerance room start_room =
    unless (shaped_of (length vs) (length is)) Shape
    (unless (counted_of (length vs) (length is)) Count
    (unless (all_below (length vs / 3) is) Vertex
    (unless (numbers_good vs p tolerance) Number
    (unless (room_for (length is / 3) room start_room) Room
    (Ok tt)))))

unfoldable pub section_left : List Float → List ℕ → Plane → Float → List Float → List ℕ → Outcome Lent
section_left vs is p tolerance op os = outcome (verdict_of vs is p tolerance (length op) (length os)) (lent op os) (laid [] (section_of vs is p tolerance) op os)
