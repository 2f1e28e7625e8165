-- Which edges a mode keeps.
use Rattle.std.specs.Prelude.{Bool, true, false, not, ◌&&◌, ◌||◌, List, [], ◌∷◌, map, ℕ, ◌/◌, Float}
use Rattle.std.specs.Float.{binary64}
use Rattle.std.specs.Float.Ieee.{sub, mul, lt, le}
use Rattle.vector.specs.declared.Vector.{Vector}
use Rattle.vector.specs.Vectors.{dot_of}
use Rattle.vector.specs.Abs.{abs_of}
use Rattle.vector.specs.Lengths.{zero64, one64}
use Rattle.mesh_mode.specs.declared.Mode.{Mode}
use Rattle.mesh_mode.specs.declared.Mode.TheVariants.{Triangles, Polygonal, Silhouette}
use Rattle.mesh_seen.specs.Seen.{normal_at, facing_at}

-- what is known of each face: its normal, and the dot of that with eye minus its first corner
pub record Seen : Type 0 where
  pub normal : ℕ → Vector
  pub dot : ℕ → Float

-- the magnitude of the cosine between two faces
abbrev pub turn_of : Seen → ℕ → ℕ → Float
turn_of s f g = abs_of (dot_of (s.normal f) (s.normal g))

-- some face whose cosine with the first is below 1.0 minus tolerance
unfoldable pub some_turns : Seen → Float → ℕ → List ℕ → Bool
some_turns s tolerance f [] = false
some_turns s tolerance f (g ∷ gs) = lt (turn_of s f g) (sub binary64 one64 tolerance) || some_turns s tolerance f gs

-- two faces meet in a crease: a cosine is asked for, and theirs is not above it
abbrev pub crease_of : Seen → Float → ℕ → ℕ → Bool
crease_of s cosine f g = lt zero64 cosine && not (lt cosine (turn_of s f g))

-- one of two faces is seen and the other is not; or, where they are flipped, both are or none
abbrev pub ends_of : Bool → Float → Bool
ends_of true dots = le zero64 dots
ends_of false dots = le dots zero64

abbrev pub two_kept : Seen → Bool → Float → ℕ → ℕ → Bool
two_kept s flip cosine f g = crease_of s cosine f g || ends_of flip (mul binary64 (s.dot f) (s.dot g))

-- by the faces of an edge, in order, and whether they are flipped
unfoldable pub kept_by : Mode → Seen → Bool → Float → List ℕ → Bool
kept_by Triangles s flip tolerance fs = true
kept_by Polygonal s flip tolerance [] = true
kept_by Polygonal s flip tolerance (f ∷ []) = true
kept_by Polygonal s flip tolerance (f ∷ g ∷ fs) = some_turns s tolerance f (g ∷ fs)
kept_by (Silhouette cosine) s flip tolerance [] = true
kept_by (Silhouette cosine) s flip tolerance (f ∷ []) = true
kept_by (Silhouette cosine) s flip tolerance (f ∷ g ∷ []) = two_kept s flip cosine f g
kept_by (Silhouette cosine) s flip tolerance (f ∷ g ∷ h ∷ fs) = true

-- ---- in scratch: sides in the place of faces, and what was stored of each face

-- the face of side k is k / 3
abbrev pub faces_of : List ℕ → List ℕ
faces_of sides = map (λ k. k / 3) sides

abbrev pub seen_in : List Float → Seen
seen_in l = record { normal = normal_at l; dot = facing_at l }
