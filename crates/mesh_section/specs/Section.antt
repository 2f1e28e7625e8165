-- The section of a mesh by a plane, as the source's intersect_segment and intersect_triangle.
use Rattle.std.specs.Prelude.{Bool, cond, ◌&&◌, List, [], ◌∷◌, ℕ, zero, suc, ◌+◌, ◌/◌, length, Float, Option, Some, None}
use Rattle.std.specs.Float.{binary64}
use Rattle.std.specs.Float.Ieee.{div, lt, le, neg}
use Rattle.vector.specs.declared.Vector.{Vector}
use Rattle.vector.specs.Vectors.{add_of, sub_of, mul_scalar_of, dot_of}
use Rattle.vector.specs.Lengths.{zero64, one64}
use Rattle.mesh.specs.declared.Triangle.{Triangle}
use Rattle.mesh.specs.Meshes.{face_at}
use Rattle.mesh_section.specs.declared.Plane.{Plane}

-- a share that lies on the segment
abbrev pub within : Float → Bool
within t = le zero64 t && le t one64

-- a segment that rises by d over the plane runs along it
abbrev pub runs_along : Float → Float → Bool
runs_along tolerance d = lt (neg tolerance) d && lt d tolerance

-- how far the segment from v0 to v1 rises, and the share of it at which it meets the plane
abbrev pub rise_of : Plane → Vector → Vector → Float
rise_of p v0 v1 = dot_of p.normal (sub_of v1 v0)

abbrev pub share_of : Plane → Vector → Vector → Float
share_of p v0 v1 = div binary64 (neg (dot_of p.normal (sub_of v0 p.point))) (rise_of p v0 v1)

unfoldable pub segment_hit : Plane → Float → Vector → Vector → Option Vector
segment_hit p tolerance v0 v1 =
    cond (runs_along tolerance (rise_of p v0 v1)) None
    (cond (within (share_of p v0 v1)) (Some (add_of v0 (mul_scalar_of (sub_of v1 v0) (share_of p v0 v1)))) None)

-- the first two of three hits
unfoldable pub two_of : Option Vector → Option Vector → Option Vector → Option (Vector × Vector)
two_of (Some a) (Some b) h = Some (a, b)
two_of (Some a) None (Some c) = Some (a, c)
two_of (Some a) None None = None
two_of None (Some b) (Some c) = Some (b, c)
two_of None (Some b) None = None
two_of None None h = None

-- the sides 12, 23, 31
unfoldable pub triangle_cut : Plane → Float → Triangle → Option (Vector × Vector)
triangle_cut p tolerance t = two_of (segment_hit p tolerance t.v1 t.v2) (segment_hit p tolerance t.v2 t.v3) (segment_hit p tolerance t.v3 t.v1)

abbrev pub cut_stroke : Option (Vector × Vector) → List Vector
cut_stroke (Some (a, b)) = a ∷ b ∷ []
cut_stroke None = []

-- the strokes of the n faces from f on, an empty one for a face that is not cut
unfoldable pub faces_cut : (ℕ → Triangle) → Plane → Float → ℕ → ℕ → List (List Vector)
faces_cut at p tolerance f zero = []
faces_cut at p tolerance f (suc n) = cut_stroke (triangle_cut p tolerance (at f)) ∷ faces_cut at p tolerance (f + 1) n

unfoldable pub section_of : List Float → List ℕ → Plane → Float → List (List Vector)
section_of vs is p tolerance = faces_cut (face_at vs is) p tolerance 0 (length is / 3)
