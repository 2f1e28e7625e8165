-- The contour of a mesh cut by a plane: the segments of its faces, joined.
use Rattle.std.specs.Prelude.{List, ℕ, Float}
use Rattle.vector.specs.declared.Vector.{Vector}
use Rattle.path_segments.specs.Join.{join_of}
use Rattle.mesh_section.specs.declared.Plane.{Plane}
use Rattle.mesh_contour_rule.specs.Contour.{segments_of}

unfoldable pub contour_of : List Float → List ℕ → Plane → Float → List (List Vector)
contour_of vs is p tolerance = join_of (segments_of vs is p tolerance)
