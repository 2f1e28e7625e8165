-- Halving spans until they are short on the screen: the points in the order of the walk, left half first.
use Rattle.std.specs.Prelude.{Bool, true, false, cond, ◌&&◌, ◌||◌, List, [], ◌∷◌, ◌++◌, map, ℕ, zero, suc, ◌+◌, ◌/◌, length, Float}
use Rattle.std.specs.Float.{binary64}
use Rattle.std.specs.Float.Ieee.{mul, lt, of_bits}
use Rattle.vector.specs.declared.Vector.{Vector}
use Rattle.vector.specs.declared.matrix.Matrix.{Matrix}
use Rattle.vector.specs.Vectors.{add_of, mul_scalar_of, distance_squared_of}
use Rattle.vector.specs.Lengths.{zero64}
use Rattle.vector.specs.Matrices.{mul_position_w_of}
use Rattle.path.specs.Strokes.{point_at, strokes_of}
use Rattle.path_adaptive.specs.declared.View.{View}
use Rattle.path_adaptive.specs.declared.Shown.{Shown}

abbrev pub view_of : Matrix → Float → Float → Float → Float → View
view_of m width height step tolerance = record { matrix = m; width = width; height = height; square = mul binary64 step step; tolerance = tolerance }

-- a point with its place on the screen
abbrev pub shown_of : View → Vector → Shown
shown_of view v = record { here = v; seen = mul_position_w_of view.matrix v }

-- the middle of two points
abbrev pub middle_of : View → Shown → Shown → Shown
middle_of view a b = shown_of view (mul_scalar_of (add_of a.here b.here) (of_bits binary64 0x3fe0_0000_0000_0000))

-- both below, both above
abbrev pub both_below : Float → Float → Float → Bool
both_below limit a b = lt a limit && lt b limit

abbrev pub both_above : Float → Float → Float → Bool
both_above limit a b = lt limit a && lt limit b

-- both ends past one side of the screen
unfoldable pub outside_of : View → Vector → Vector → Bool
outside_of view a b =
    both_below zero64 a.x b.x || both_below zero64 a.y b.y || both_above view.width a.x b.x || both_above view.height a.y b.y

-- a span that is not halved: past a side, shorter than a step on the screen, or short in itself
unfoldable pub span_ends : View → Shown → Shown → Bool
span_ends view a b =
    outside_of view a.seen b.seen || lt (distance_squared_of a.seen b.seen) view.square
    || lt (distance_squared_of a.here b.here) view.tolerance

-- the points of a walk, the halvings made, and whether it ended at a span that may not be halved
pub record Walk : Type 0 where
  pub points : List Vector
  pub halvings : ℕ
  pub deep : Bool

abbrev pub none : Walk
none = record { points = []; halvings = 0; deep = false }

abbrev pub one_point : Vector → Walk
one_point v = record { points = v ∷ []; halvings = 0; deep = false }

abbrev pub stuck : Walk
stuck = record { points = []; halvings = 0; deep = true }

-- a walk, and, where it came to its end, the one after it
unfoldable pub followed_by : Walk → Walk → Walk
followed_by l r = record { points = l.points ++ cond l.deep [] r.points; halvings = l.halvings + cond l.deep 0 r.halvings; deep = cond l.deep true r.deep }

abbrev pub halved : Walk → Walk
halved w = record { points = w.points; halvings = 1 + w.halvings; deep = w.deep }

-- what the span from a to b gives after a, where n halvings may lie on each other
unfoldable pub walk : ℕ → View → Shown → Shown → Walk
walk zero view a b = cond (span_ends view a b) (one_point b.here) stuck
walk (suc n) view a b =
    let m = middle_of view a b in
    let w = halved (followed_by (walk n view a m) (walk n view m b)) in
    cond (span_ends view a b) (one_point b.here) w

-- a span that deep is halved no more
abbrev pub most_halvings : ℕ
most_halvings = 64

-- the spans from a over the points that follow it
unfoldable pub walk_from : View → Shown → List Vector → Walk
walk_from view a [] = none
walk_from view a (v ∷ vs) = followed_by (walk most_halvings view a (shown_of view v)) (walk_from view (shown_of view v) vs)

-- a stroke: its first point, then its spans; one of one point stays
unfoldable pub stroke_walked : View → List Vector → Walk
stroke_walked view [] = none
stroke_walked view (v ∷ vs) = followed_by (one_point v) (walk_from view (shown_of view v) vs)

-- every stroke of the list
unfoldable pub walks_of : View → List Float → List ℕ → List Walk
walks_of view ps ss = map (stroke_walked view) (strokes_of (point_at ps) (length ps / 3) ss)

abbrev pub adapted : List Walk → List (List Vector)
adapted ws = map (λ (w : Walk). w.points) ws

-- the halvings of all; points written are points read and these (`written-is-read-and-halvings`, proofs/Halvings)
unfoldable pub halvings_of : List Walk → ℕ
halvings_of [] = 0
halvings_of (w ∷ ws) = w.halvings + halvings_of ws
