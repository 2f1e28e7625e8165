-- The walk over the edges in scratch. With n sides their words lie up to 5 n (mesh_edges/specs/InnerWords); the kept edges follow, two numbers each.
use Rattle.std.specs.Prelude.{◌≡◌, Bool, cond, List, [], ℕ, ◌+◌, ◌*◌, ◌/◌, ◌%◌, ◌≤◌, length, get_or, set, take, eqb, Float}
use Rattle.refusal.specs.Limits.{most_faces}
use Rattle.order.specs.Regions.{region}
use Rattle.vector.specs.declared.Vector.{Vector}
use Rattle.path_splice.specs.InnerPairs.{pairs_of}
use Rattle.mesh.specs.Meshes.{face_at}
use Rattle.mesh_mode.specs.declared.Mode.{Mode}
use Rattle.mesh_mode.specs.Modes.{needs_of}
use Rattle.mesh_seen.specs.Seen.{seen_from}
use Rattle.mesh_edges.specs.Edges.{edges_of}
use Rattle.mesh_edges.specs.InnerWords.{side_words}
use Rattle.mesh_keep.specs.Keep.{seen_in}
use Rattle.mesh_strokes.specs.Draw.{kept, strokes_by}

-- room for n sides, and for as many strokes to be spliced
pub record Room (s : List ℕ) (n : ℕ) : Type 0 where
  pub few : n ≤ 3 * most_faces
  pub long : 13 * n ≤ length s

-- the words of the sides of a mesh, for some list of flips
pub record Listed (is s : List ℕ) : Type 0 where
  pub flips : List ℕ
  pub words : take (5 * length is) s ≡ side_words is flips

-- whether the edge at place p is flipped
abbrev pub flip_at : List ℕ → ℕ → ℕ → Bool
flip_at s n p = eqb (get_or s (4 * n + get_or s (2 * n + p) 0) 0) 1

-- side k written as pair m
unfoldable pub with_pair : List ℕ → ℕ → ℕ → ℕ → List ℕ
with_pair s n k m = set (set s (5 * n + 2 * m) (get_or s k 0)) (5 * n + 2 * m + 1) (get_or s (n + k) 0)

-- how many pairs there are, and the words
pub record Written : Type 0 where
  pub count : ℕ
  pub words : List ℕ

abbrev pub written : ℕ → List ℕ → Written
written m s = record { count = m; words = s }

-- an edge with side k, written after m pairs if it is kept
unfoldable pub edge_kept : Bool → List ℕ → ℕ → ℕ → ℕ → Written
edge_kept keep s n k m = cond keep (written (m + 1) (with_pair s n k m)) (written m s)

-- r pairs follow the words of the sides: the kept edges
pub record KeptIn (mode : Mode) (seen : List Float) (tolerance : Float) (is s s' : List ℕ) (r : ℕ) : Type 0 where
  pub size : length s' ≡ length s
  pub few : r ≤ length is
  pub pairs : (flips : List ℕ) → take (5 * length is) s ≡ side_words is flips
      → pairs_of (region s' (5 * length is) (2 * r)) ≡ strokes_by (kept mode (seen_in seen) flips tolerance) is (edges_of is)

-- what is stored of the faces where a mode needs their normals
unfoldable pub look_in : Mode → Vector → List Float → List ℕ → List Float → List Float
look_in mode eye vs is l = cond (needs_of mode).normals (seen_from eye (face_at vs is) 0 (length is / 3) l) l

-- the flips where a mode needs them
unfoldable pub flips_for : Mode → List ℕ → List ℕ
flips_for mode flips = cond (needs_of mode).flips flips []

-- what the tests before a drawing promise of a mesh and of what is lent
pub record Fitting (is : List ℕ) (words numbers room start_room : ℕ) : Type 0 where
  pub three : length is % 3 ≡ 0
  pub few : length is / 3 ≤ most_faces
  pub scratch : 64 * (length is / 3) ≤ words
  pub seen : 4 * (length is / 3) ≤ numbers
  pub points : 6 * (length is / 3) ≤ room
  pub starts : 3 * (length is / 3) ≤ start_room
