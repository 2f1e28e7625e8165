-- The numbers of a segment's points: no -0; and all finite, where those of the mesh, the plane and the tolerance are within their ranges.
use Rattle.std.specs.Prelude.{◌≡◌, Bool, true, false, List, ℕ, ◌/◌, length, T, ltb, Float}
use Rattle.std.specs.Float.{nan, inf, fin}
use Rattle.std.specs.Float.Ieee.Scale.{finite}
use Rattle.refusal.specs.Each.{Each}
use Rattle.vector.specs.declared.Vector.{Vector}
use Rattle.mesh.specs.Meshes.{all_below}
use Rattle.mesh_section.specs.declared.Plane.{Plane}
use Rattle.mesh_section.specs.Call.{numbers_good}
use Rattle.mesh_contour_rule.specs.Contour.{segments_of}

-- a zero has no sign
abbrev pub no_minus_zero : Float → Bool
no_minus_zero nan = true
no_minus_zero (inf s) = true
no_minus_zero (fin false m e) = true
no_minus_zero (fin true m e) = ltb 0 m

-- a test of each coordinate of a point
abbrev pub Coordinates : (Float → Bool) → Vector → Type 0
Coordinates f v = T (f v.x) × T (f v.y) × T (f v.z)

-- every point of every segment of a mesh
pub record Plain (vs : List Float) (is : List ℕ) (p : Plane) (tolerance : Float) : Type 0 where
  pub no_minus_zeros : Each (Each (Coordinates no_minus_zero)) (segments_of vs is p tolerance)
  -- where the numbers are within their ranges and every index is that of a vertex
  pub all_finite : numbers_good vs p tolerance ≡ true → all_below (length vs / 3) is ≡ true → Each (Each (Coordinates finite)) (segments_of vs is p tolerance)
