-- A drawing of a mesh: its kept edges, each a stroke of two, smaller first, spliced.
use Rattle.std.specs.Prelude.{Bool, false, cond, List, [], ◌∷◌, map, ℕ, min, max, eqb, Float}
use Rattle.vector.specs.declared.Vector.{Vector}
use Rattle.path_splice_rule.specs.Splice.{splice}
use Rattle.mesh.specs.Meshes.{face_at}
use Rattle.mesh_mode.specs.declared.Mode.{Mode}
use Rattle.mesh_seen.specs.Normals.{normal_of, facing_of}
use Rattle.mesh_edges.specs.Edges.{face_of, low_of, high_of, edges_of}
use Rattle.mesh_edges.specs.Flips.{flipped}
use Rattle.mesh_keep.specs.Keep.{Seen, kept_by}

-- an edge of two faces is flipped where the list has the smaller face and the larger one, in this order
unfoldable pub flip_of : List ℕ → List ℕ → Bool
flip_of flips [] = false
flip_of flips (f ∷ []) = false
flip_of flips (f ∷ g ∷ []) = flipped (min f g) (max f g) flips
flip_of flips (f ∷ g ∷ h ∷ fs) = false

unfoldable pub kept : Mode → Seen → List ℕ → Float → List ℕ → Bool
kept mode s flips tolerance fs = kept_by mode s (flip_of flips fs) tolerance fs

-- what an eye sees of each face
abbrev pub seen_by : Vector → List Float → List ℕ → Seen
seen_by eye vs is = record { normal = λ f. normal_of (face_at vs is f); dot = λ f. facing_of eye (face_at vs is f) }

-- the edges that pass a test on their faces, as strokes
unfoldable pub strokes_by : (List ℕ → Bool) → List ℕ → List (List ℕ) → List (List ℕ)
strokes_by keep is [] = []
strokes_by keep is ([] ∷ es) = strokes_by keep is es
strokes_by keep is ((k ∷ ks) ∷ es) =
    let rest = strokes_by keep is es in
    cond (keep (map face_of (k ∷ ks))) ((low_of is k ∷ high_of is k ∷ []) ∷ rest) rest

-- the kept edges of a drawing
unfoldable pub kept_of : Mode → Vector → Float → List ℕ → List Float → List ℕ → List (List ℕ)
kept_of mode eye tolerance flips vs is = strokes_by (kept mode (seen_by eye vs is) flips tolerance) is (edges_of is)

unfoldable pub drawing_of : Mode → Vector → Float → List ℕ → List Float → List ℕ → List (List ℕ)
drawing_of mode eye tolerance flips vs is = splice 0 eqb (kept_of mode eye tolerance flips vs is)
