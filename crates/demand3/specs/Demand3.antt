-- Demand 3: each kept edge once and none invented; then as few open strokes as those edges allow.
-- It is said of the two lists that a call leaves, read as strokes by the counts that it answers. proofs/Theorem proves it of every accepted
-- `draw` and of every accepted `splice`.
use Rattle.std.specs.Prelude.{◌≡◌, Bool, false, cond, ◌&&◌, ◌||◌, List, [], ◌∷◌, map, ℕ, ◌%◌, ◌≤◌, eqb, Float, length, get_or, take}
use Rattle.vector.specs.declared.Vector.{Vector}
use Rattle.path.specs.Strokes.{strokes_in}
use Rattle.path_splice_rule.specs.Demand.{drawn, degree, open_count, ends_open}
use Rattle.mesh_mode.specs.declared.Mode.{Mode}
use Rattle.mesh_edges.specs.Edges.{face_of, next_corner, up_from}
use Rattle.mesh_strokes.specs.Draw.{kept, seen_by}

-- the strokes in two lists, of which the first p numbers and the first q starts were written
abbrev pub strokes_written : ℕ → ℕ → List ℕ → List ℕ → List (List ℕ)
strokes_written p q points starts = strokes_in (take p points) (take q starts)

-- strokes that draw each pair a b, in either direction, exactly `times a b` times
pub record Draws (times : ℕ → ℕ → ℕ) (strokes : List (List ℕ)) : Type 0 where
  pub pairs : (a b : ℕ) → drawn eqb a b strokes ≡ times a b
  -- a vertex ends one open stroke where an odd number of the drawn pairs, which are those of `times`, meet, and else none
  pub odd : (v : ℕ) → ends_open eqb v strokes ≡ degree eqb v strokes % 2
  -- no other strokes that draw the pairs so often have fewer open ones
  pub least : (other : List (List ℕ)) → ((a b : ℕ) → drawn eqb a b other ≡ times a b) → open_count eqb strokes ≤ open_count eqb other

-- ---- the edges that a drawing keeps, of the mesh itself: no order, no sort, no list of edges

-- whether side k of the list of indices runs between a and b, in either direction
unfoldable pub between : List ℕ → ℕ → ℕ → ℕ → Bool
between is a b k = (eqb a (get_or is k 0) && eqb b (get_or is (next_corner k) 0)) || (eqb a (get_or is (next_corner k) 0) && eqb b (get_or is k 0))

-- those of a list that pass a test
unfoldable pub those : (ℕ → Bool) → List ℕ → List ℕ
those q [] = []
those q (x ∷ xs) = let r = those q xs in cond (q x) (x ∷ r) r

-- the faces that have a side between a and b, in the order of the mesh
unfoldable pub faces_with : List ℕ → ℕ → ℕ → List ℕ
faces_with is a b = map face_of (those (between is a b) (up_from 0 (length is)))

-- a pair that no face has is not kept; one that some have, as the mode says by those faces
unfoldable pub keeps_some : (List ℕ → Bool) → List ℕ → Bool
keeps_some keep [] = false
keeps_some keep (f ∷ fs) = keep (f ∷ fs)

unfoldable pub kept_pair : Mode → Vector → Float → List ℕ → List Float → List ℕ → ℕ → ℕ → Bool
kept_pair mode eye tolerance flips vs is a b = keeps_some (kept mode (seen_by eye vs is) flips tolerance) (faces_with is a b)
