-- Demand 3 of a contour, over segments in place of kept edges and over points in place of vertices; and that a closed mesh has a closed contour.
-- It is said of the two lists that a call leaves, read as strokes by the counts that it answers. proofs/Theorem proves it of every accepted `contour`.
use Rattle.std.specs.Prelude.{◌≡◌, List, ℕ, take, Float}
use Rattle.vector.specs.declared.Vector.{Vector}
use Rattle.path.specs.Strokes.{strokes_of, point_at}
use Rattle.path_splice_rule.specs.Demand.{Demand3, open_count}
use Rattle.path_classes.specs.Classes.{same_point}
use Rattle.mesh_section.specs.declared.Plane.{Plane}
use Rattle.mesh_contour_rule.specs.Contour.{segments_of}
use Rattle.mesh_contour_rule.specs.Closed.{ClosedMesh}

-- the strokes in two lists, of which the first p points and the first q starts were written
abbrev pub strokes_written : ℕ → ℕ → List Float → List ℕ → List (List Vector)
strokes_written p q points starts = strokes_of (point_at points) p (take q starts)

-- what strokes are to a mesh cut by a plane; points are the same where all three numbers are, -0 having been made 0
pub record Contours (vs : List Float) (is : List ℕ) (p : Plane) (tolerance : Float) (strokes : List (List Vector)) : Type 0 where
  -- each pair of points is drawn as often as faces give that segment, in either direction; then as few open strokes as the segments allow
  pub demand3 : Demand3 same_point (segments_of vs is p tolerance) strokes
  -- no stroke is open where no face repeats a vertex number and every edge has an even number of faces
  pub closed : ClosedMesh is → open_count same_point strokes ≡ 0
