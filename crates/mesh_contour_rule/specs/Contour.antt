-- The contour of a mesh cut by a plane: which faces give a segment, and between which points.
use Rattle.std.specs.Prelude.{Bool, cond, not, ◌&&◌, ◌||◌, List, [], ◌∷◌, ◌++◌, map, ℕ, zero, suc, ◌+◌, ◌*◌, ◌/◌, length, get_or, eqb, ltb, Float}
use Rattle.std.specs.Float.{binary64}
use Rattle.std.specs.Float.Ieee.{sub, div, lt, eq, neg}
use Rattle.vector.specs.declared.Vector.{Vector}
use Rattle.vector.specs.Vectors.{add_of, sub_of, mul_scalar_of, dot_of}
use Rattle.vector.specs.Lengths.{zero64}
use Rattle.mesh.specs.Meshes.{corner_at}
use Rattle.mesh_section.specs.declared.Plane.{Plane}
use Rattle.mesh_contour_rule.specs.declared.Side.{Side}
use Rattle.mesh_contour_rule.specs.declared.Side.TheVariants.{Above, Below, On}
use Rattle.mesh_contour_rule.specs.declared.Corner.{Corner}

-- ---- where a vertex lies

-- how high over the plane, by the computed dot
abbrev pub height_of : Plane → Vector → Float
height_of p v = dot_of p.normal (sub_of v p.point)

-- above if not below the tolerance, below if not above minus the tolerance, else on
unfoldable pub side_of : Float → Float → Side
side_of tolerance s = cond (not (lt s tolerance)) Above (cond (not (lt (neg tolerance) s)) Below On)

-- a corner by the number of its vertex and where that lies, and corner k of the list of indices
abbrev pub corner_by : Plane → Float → ℕ → Vector → Corner
corner_by p tolerance n v = record { vertex = n; at = v; height = height_of p v; side = side_of tolerance (height_of p v) }

abbrev pub corner_of : Plane → Float → List Float → List ℕ → ℕ → Corner
corner_of p tolerance vs is k = corner_by p tolerance (get_or is k 0) (corner_at vs is k)

-- ---- what is met going round a face

-- 1 for a corner that is above, below, on
abbrev pub above : Side → ℕ
above Above = 1
above Below = 0
above On = 0

abbrev pub below : Side → ℕ
below Above = 0
below Below = 1
below On = 0

abbrev pub on : Side → ℕ
on Above = 0
on Below = 0
on On = 1

-- the plane parts two corners: one is above, the other below
abbrev pub parts : Side → Side → Bool
parts s t = eqb (above s + above t) 1 && eqb (below s + below t) 1

-- the crossing from a to b: a + (b - a) * t, t = height of a / (height of a - height of b)
unfoldable pub cross_from : Corner → Corner → Vector
cross_from a b = add_of a.at (mul_scalar_of (sub_of b.at a.at) (div binary64 a.height (sub binary64 a.height b.height)))

-- it is worked from the lower-numbered vertex, whatever way round the face has the side
unfoldable pub crossing : Corner → Corner → Vector
crossing a b = cond (ltb b.vertex a.vertex) (cross_from b a) (cross_from a b)

unfoldable pub at_corner : Corner → List Vector
at_corner a = cond (eqb (on a.side) 1) (a.at ∷ []) []

unfoldable pub on_side : Corner → Corner → List Vector
on_side a b = cond (parts a.side b.side) (crossing a b ∷ []) []

-- corner 1, side 12, corner 2, side 23, corner 3, side 31
unfoldable pub met : Corner → Corner → Corner → List Vector
met a b c = at_corner a ++ on_side a b ++ at_corner b ++ on_side b c ++ at_corner c ++ on_side c a

-- ---- the segments

-- by how many corners are above, below and on: one each; or some above, some below and none on; or two on and the third above
unfoldable pub gives : ℕ → ℕ → ℕ → Bool
gives a b o = (eqb a 1 && eqb b 1 && eqb o 1) || (ltb 0 a && ltb 0 b && eqb o 0) || (eqb a 1 && eqb o 2)

abbrev pub gives_by : Side → Side → Side → Bool
gives_by r s t = gives (above r + above s + above t) (below r + below s + below t) (on r + on s + on t)

-- -0 becomes 0
abbrev pub unsigned : Float → Float
unsigned x = cond (eq x zero64) zero64 x

abbrev pub unsigned_point : Vector → Vector
unsigned_point v = record { x = unsigned v.x; y = unsigned v.y; z = unsigned v.z }

-- the segment of a face by its corners, nothing where it gives none
unfoldable pub segment_by : Corner → Corner → Corner → List Vector
segment_by a b c = cond (gives_by a.side b.side c.side) (map unsigned_point (met a b c)) []

-- of face f, and of the n faces from f on, those that give one, in list order
module _ (at : ℕ → Corner) where
  unfoldable pub segment_of : ℕ → List Vector
  segment_of f = segment_by (at (f * 3)) (at (f * 3 + 1)) (at (f * 3 + 2))

  unfoldable pub segments_from : ℕ → ℕ → List (List Vector)
  segments_from f zero = []
  segments_from f (suc n) = let rest = segments_from (f + 1) n in cond (eqb (length (segment_of f)) 0) rest (segment_of f ∷ rest)

unfoldable pub segments_of : List Float → List ℕ → Plane → Float → List (List Vector)
segments_of vs is p tolerance = segments_from (corner_of p tolerance vs is) 0 (length is / 3)
