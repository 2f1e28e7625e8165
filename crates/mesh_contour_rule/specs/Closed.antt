-- A closed mesh, and what holds of the segments that a plane cuts of it.
use Rattle.std.specs.Prelude.{◌≡◌, ◌≢◌, Bool, ◌&&◌, ◌||◌, List, ℕ, zero, suc, ◌+◌, ◌%◌, ◌<◌, length, get_or, eqb, Float}
use Rattle.vector.specs.declared.Vector.{Vector}
use Rattle.path_splice_rule.specs.Demand.{one, degree}
use Rattle.mesh_edges.specs.Edges.{next_corner}
use Rattle.mesh_section.specs.declared.Plane.{Plane}
use Rattle.mesh_contour_rule.specs.Contour.{segments_of}

-- whether side k of the list of indices runs between a and b, in either direction
unfoldable pub runs : List ℕ → ℕ → ℕ → ℕ → Bool
runs is a b k = (eqb a (get_or is k 0) && eqb b (get_or is (next_corner k) 0)) || (eqb a (get_or is (next_corner k) 0) && eqb b (get_or is k 0))

-- how many of the first n sides do
unfoldable pub sides_between : List ℕ → ℕ → ℕ → ℕ → ℕ
sides_between is a b zero = 0
sides_between is a b (suc n) = sides_between is a b n + one (runs is a b n)

-- no face repeats a vertex number, and every edge has an even number of faces. Sides are counted: with `apart`, which no proof needs,
-- a face has at most one side between a and b
pub record ClosedMesh (is : List ℕ) : Type 0 where
  pub whole : length is % 3 ≡ 0
  pub apart : (k : ℕ) → k < length is → get_or is k 0 ≢ get_or is (next_corner k) 0
  pub even : (a b : ℕ) → sides_between is a b (length is) % 2 ≡ 0

-- at every point an even number of the segments' ends meets, whatever test tells points apart, for every plane
abbrev pub EvenEnds : List Float → List ℕ → Type 0
EvenEnds vs is = (p : Plane) (tolerance : Float) (same : Vector → Vector → Bool) (v : Vector) → degree same v (segments_of vs is p tolerance) % 2 ≡ 0
