-- How the code finds the vertices of a cell: a table of digital search trees in scratch.
use Rattle.path.specs.Strokes.{point_at}
use Rattle.path.specs.InnerPushes.{put_point}
use Rattle.std.specs.Prelude.{◌≡◌, Bool, cond, ◌||◌, List, [], ◌∷◌, ℕ, ◌+◌, ◌-◌, ◌*◌, ◌/◌, ◌%◌, ◌^◌, ◌<◌, ◌≤◌, length, get_or, set, eqb, leb, ltb, ℤ, pos, negsuc, Float}
use Rattle.std.specs.Float.Ieee.{le, neg}
use Rattle.vector.specs.declared.Vector.{Vector}
use Rattle.mesh_weld.specs.declared.Cube.{Cube}
use Rattle.mesh_weld.specs.declared.Way.{Way}
use Rattle.mesh_weld.specs.declared.Ways.{Ways}
use Rattle.std.specs.Prelude.{Option, Some, None}
use Rattle.mesh_weld.specs.Weld.{side, cell, near, find, weld_of}
use Rattle.std.proofs.lemmas.List.Edits.{sets}

-- what the loop over the corners leaves
pub record Laid (cs : List Float) (vs : List Float) (is : List ℕ) (vs' : List Float) (is' : List ℕ) (r : ℕ) : Type 0 where
  pub vertices : vs' ≡ sets vs 0 (weld_of cs).vertices
  pub indices : is' ≡ sets is 0 (weld_of cs).indices
  pub count : r ≡ (weld_of cs).count
  pub length_vertices : length (weld_of cs).vertices ≤ length vs
  pub length_indices : length (weld_of cs).indices ≡ length cs / 3

-- cells counted up from a number below all of them
unfoldable pub count : ℤ → ℕ
count (pos n) = 2 ^ 54 + n
count (negsuc n) = 2 ^ 54 - 1 - n

unfoldable pub key : Float → ℕ
key x = count (cell x)

-- the cell of a point
abbrev pub cube : ℕ → ℕ → ℕ → Cube
cube a b c = record { x = a; y = b; z = c }

unfoldable pub cube_of : Vector → Cube
cube_of p = cube (key p.x) (key p.y) (key p.z)

pub record Counted (c : Cube) : Type 0 where
  pub x_low : 0 < c.x
  pub x_high : c.x < 2 ^ 55
  pub y_low : 0 < c.y
  pub y_high : c.y < 2 ^ 55
  pub z_low : 0 < c.z
  pub z_high : c.z < 2 ^ 55

-- the coarse cell, two cells wide, that a cell lies in
unfoldable pub coarse_of : Cube → Cube
coarse_of c = cube (c.x / 2) (c.y / 2) (c.z / 2)

unfoldable pub coarse_at : List Float → ℕ → Cube
coarse_at vs i = coarse_of (cube_of (point_at vs i))

-- the bucket of a coarse cell, of m: a sum by a prime, and the share of m that this is of 2 ^ 32
unfoldable pub folded_of : ℕ → ℕ
folded_of c = (c % 4294967296 + c / 4294967296) % 4294967296

unfoldable pub bucket_of : Cube → ℕ → ℕ
bucket_of q m = (folded_of q.x * 625341585 + folded_of q.y * 461845907 + folded_of q.z * 668265263) % 4294967291 * m / 4294967296

-- A table is m buckets and then two links a vertex. Each of these slots holds 0, or a vertex's number plus 1. The way of a coarse cell
-- starts at its bucket and goes on, from a slot that holds a vertex, to that link of the vertex which the cell's next bit tells.

-- what is left of a coarse cell after its first bit: x, y, z take turns, the lowest bits first
abbrev pub turned_of : Cube → Cube
turned_of q = cube q.y q.z (q.x / 2)

abbrev pub link_of : ℕ → Cube → ℕ → ℕ
link_of v q m = m + v * 2 + q.x % 2

-- vertex v is on the way from the slot `at` by the bits of q
pub data On (s : List ℕ) (m v : ℕ) : ℕ → Cube → Type 0 where
  here : {at : ℕ} {q : Cube} → get_or s at 0 ≡ v + 1 → On s m v at q
  past : {at : ℕ} {q : Cube} (u : ℕ) → get_or s at 0 ≡ u + 1 → On s m v (link_of u q m) (turned_of q) → On s m v at q

-- that way ends at the empty slot e
pub data Ends (s : List ℕ) (m e : ℕ) : ℕ → Cube → Type 0 where
  stop : {at : ℕ} {q : Cube} → e ≡ at → get_or s at 0 ≡ 0 → Ends s m e at q
  past : {at : ℕ} {q : Cube} (u : ℕ) → get_or s at 0 ≡ u + 1 → Ends s m e (link_of u q m) (turned_of q) → Ends s m e at q

-- a vertex of the k stands in a slot before its own links, so that every way ends
pub record Older (s : List ℕ) (m k : ℕ) : Type 0 where
  pub below : (at v : ℕ) → get_or s at 0 ≡ v + 1 → v < k
  pub before : (at v : ℕ) → get_or s at 0 ≡ v + 1 → at < m + v * 2

-- every vertex is on the way of its own coarse cell
pub record Table (s : List ℕ) (h : ℕ → Cube) (m k : ℕ) : Type 0 where
  pub older : Older s m k
  pub held : (v : ℕ) → v < k → On s m v (bucket_of (h v) m) (h v)

-- s with vertex k put where the way of its coarse cell ends
pub record Hung (s : List ℕ) (m k : ℕ) (q : Cube) (s' : List ℕ) : Type 0 where
  pub at : ℕ
  pub ends : Ends s m at (bucket_of q m) q
  pub inside : at < m + k * 2
  pub is : s' ≡ set s at (k + 1)

-- the place of w among the three cells about x
unfoldable pub place_of : ℕ → ℕ → ℕ
place_of w x = cond (leb x (w + 1)) (cond (leb w (x + 1)) (w + 1 - x) 100) 100

-- the place of v's cell among the 27 about c: below 27, or else 100 and more
unfoldable pub rank_of : Cube → Vector → ℕ
rank_of c v = place_of (key v.x) c.x * 9 + place_of (key v.y) c.y * 3 + place_of (key v.z) c.z

-- a difference that parts two points by itself: 0.000001 or more, either way
unfoldable pub apart_of : Float → Bool
apart_of d = le side d || le d (neg side)

-- how many vertex numbers there are to a place, more than there are vertices; what is worth nothing, the 27 places being filled
abbrev pub to_place : ℕ
to_place = 1048576

abbrev pub top : ℕ
top = 27 * to_place

-- what vertex i, the point v, is worth to p: the place and then the number, as one number, below top where the vertex is found
unfoldable pub score_of : Vector → Cube → Vector → ℕ → ℕ
score_of p c v i = cond (near p v) (rank_of c v * to_place + i) top

unfoldable pub score_at : List Float → Vector → Cube → ℕ → ℕ
score_at vs p c i = score_of p c (point_at vs i) i

-- A way that is walked: what the slot holds that it has come to, and the bits that are left.
abbrev pub way_at : ℕ → Cube → Way
way_at n q = record { next = n; q = q }

unfoldable pub way_of : List ℕ → ℕ → Cube → Way
way_of s m q = way_at (get_or s (bucket_of q m) 0) q

-- one vertex further; a way that has ended stays
unfoldable pub onward_of : List ℕ → ℕ → Way → Way
onward_of s m w = cond (eqb w.next 0) w (way_at (get_or s (link_of (w.next - 1) w.q m) 0) (turned_of w.q))

unfoldable pub lesser_of : ℕ → ℕ → ℕ
lesser_of a b = cond (ltb a b) a b

-- the lesser of a number and of what the vertex ahead is worth by f; the least over several ways
unfoldable pub worth_of : (ℕ → ℕ) → ℕ → Way → ℕ
worth_of f best w = cond (eqb w.next 0) best (lesser_of (f (w.next - 1)) best)

abbrev pub all_worth : (ℕ → ℕ) → ℕ → List Way → ℕ
all_worth f best [] = best
all_worth f best (w ∷ ws) = all_worth f (worth_of f best w) ws

-- 1 where the vertex ahead is near p, and else 0; of several ways a bit each, the first the lowest
unfoldable pub close_of : List Float → Vector → Way → ℕ
close_of vs p w = cond (eqb w.next 0) 0 (cond (near p (point_at vs (w.next - 1))) 1 0)

abbrev pub all_close : List Float → Vector → List Way → ℕ
all_close vs p [] = 0
all_close vs p (w ∷ ws) = close_of vs p w + 2 * all_close vs p ws

abbrev pub nexts : List Way → ℕ
nexts [] = 0
nexts (w ∷ ws) = w.next + nexts ws

abbrev pub NoMore : ℕ → Way → Type 0
NoMore n w = w.next ≤ n

abbrev pub all_ways : Ways → List Way
all_ways w = w.a ∷ w.b ∷ w.c ∷ w.d ∷ w.e ∷ w.f ∷ w.g ∷ w.h ∷ []

-- the coarse cells two by two by two from one on
abbrev pub eight_from : ℕ → ℕ → ℕ → List Cube
eight_from x y z =
    cube x y z ∷ cube x y (z + 1) ∷ cube x (y + 1) z ∷ cube x (y + 1) (z + 1)
    ∷ cube (x + 1) y z ∷ cube (x + 1) y (z + 1) ∷ cube (x + 1) (y + 1) z ∷ cube (x + 1) (y + 1) (z + 1) ∷ []

-- r is the least of first and of f over some of the numbers below k, those of q at least
pub record Least (q : ℕ → Type 0) (f : ℕ → ℕ) (k first r : ℕ) : Type 0 where
  pub below : r ≤ first
  pub all : (i : ℕ) → i < k → q i → r ≤ f i
  pub to : (c : ℕ) → c ≤ first → ((i : ℕ) → i < k → c ≤ f i) → c ≤ r

-- at most a cell from x
pub record Beside (x w : ℕ) : Type 0 where
  pub low : x ≤ w + 1
  pub high : w ≤ x + 1

pub record About (vs : List Float) (c : Cube) (i : ℕ) : Type 0 where
  pub x : Beside c.x (key (point_at vs i).x)
  pub y : Beside c.y (key (point_at vs i).y)
  pub z : Beside c.z (key (point_at vs i).z)

-- the table of the k vertices in vs, and room for what is asked of it
pub record Ready (s : List ℕ) (vs : List Float) (m k : ℕ) : Type 0 where
  pub table : Table s (coarse_at vs) m k
  pub room : m + k * 2 ≤ length s
  pub points : k * 3 ≤ length vs

-- what one corner changes: the vertices, its number, the count
abbrev pub grown : List Float → ℕ → Vector → Option ℕ → List Float
grown vs k p (Some i) = vs
grown vs k p None = put_point vs k p

abbrev pub corner_number : ℕ → Option ℕ → ℕ
corner_number k (Some i) = i
corner_number k None = k

abbrev pub more_of : ℕ → Option ℕ → ℕ
more_of k (Some i) = k
more_of k None = k + 1

pub record Placed (vs : List Float) (is : List ℕ) (m k i : ℕ) (p : Vector) (s' : List ℕ) (vs' : List Float) (is' : List ℕ) (r : ℕ) : Type 0 where
  pub vertices : vs' ≡ grown vs k p (find vs k p)
  pub indices : is' ≡ set is i (corner_number k (find vs k p))
  pub count : r ≡ more_of k (find vs k p)
  pub table : Table s' (coarse_at vs') m r
