-- A mesh: vertices as three numbers each, and three indices a face.
use Rattle.std.specs.Prelude.{Bool, true, ◌&&◌, List, [], ◌∷◌, ℕ, ◌+◌, ◌*◌, ◌/◌, ◌%◌, length, get_or, leb, ltb, eqb, Float}
use Rattle.refusal.specs.declared.Refusal.TheVariants.{Shape, Count, Vertex}
use Rattle.refusal.specs.Refusals.{Verdict, unless}
use Rattle.refusal.specs.Limits.{most_faces, most_vertices}
use Rattle.vector.specs.declared.Vector.{Vector}
use Rattle.path.specs.Strokes.{point_at}
use Rattle.path.specs.Tests.{coordinate_good}
use Rattle.mesh.specs.declared.Triangle.{Triangle}

-- the vertex of corner k, and the corners of face f
abbrev pub corner_at : List Float → List ℕ → ℕ → Vector
corner_at vs is k = point_at vs (get_or is k 0)

abbrev pub face_at : List Float → List ℕ → ℕ → Triangle
face_at vs is f = record { v1 = corner_at vs is (f * 3); v2 = corner_at vs is (f * 3 + 1); v3 = corner_at vs is (f * 3 + 2) }

-- the coordinates of the corners that indices name, in order
unfoldable pub gathered : List Float → List ℕ → List Float
gathered vs [] = []
gathered vs (i ∷ is) = (point_at vs i).x ∷ (point_at vs i).y ∷ (point_at vs i).z ∷ gathered vs is

-- ---- the tests, by how many numbers and how many indices there are

unfoldable pub shaped_of : ℕ → ℕ → Bool
shaped_of numbers indices = eqb (numbers % 3) 0 && eqb (indices % 3) 0

unfoldable pub counted_of : ℕ → ℕ → Bool
counted_of numbers indices = leb (numbers / 3) most_vertices && leb (indices / 3) most_faces

unfoldable pub all_below : ℕ → List ℕ → Bool
all_below n [] = true
all_below n (i ∷ is) = ltb i n && all_below n is

-- the tests of a mesh that a call is lent, before those that follow
unfoldable pub mesh_verdict : List Float → List ℕ → Verdict → Verdict
mesh_verdict vs is next =
    unless (shaped_of (length vs) (length is)) Shape
    (unless (counted_of (length vs) (length is)) Count
    (unless (all_below (length vs / 3) is) Vertex next))

-- the first n faces are there, and with v vertices all their corners
unfoldable pub reach_of : ℕ → List ℕ → ℕ → Bool
reach_of v is n = leb (n * 3) (length is) && all_below v is

unfoldable pub vector_good : Vector → Bool
vector_good v = coordinate_good v.x && coordinate_good v.y && coordinate_good v.z
