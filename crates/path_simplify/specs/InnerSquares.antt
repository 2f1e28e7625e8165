-- The scan without roots: a distance is the root of a square, and roots keep the order.
use Rattle.std.specs.Prelude.{Option, Some, None, ◌≡◌, true, cond, ◌⊎◌, T, Float, ℕ}
use Rattle.std.specs.Float.{binary64}
use Rattle.std.specs.Float.Ieee.{fits, lt}
use Rattle.vector.specs.declared.Vector.{Vector}
use Rattle.vector.specs.Vectors.{distance_squared_of}
use Rattle.vector.specs.Lengths.{zero64, or_nan, from_segment}
use Rattle.vector.specs.Root.{root_of}
use Rattle.path_simplify.specs.declared.Best.{Best}
use Rattle.path_simplify.specs.declared.Records.{Records}
use Rattle.path.specs.declared.Place.{Place}
use Rattle.path_simplify.specs.declared.Simplified.{Simplified}
use Rattle.path_simplify.specs.Simplify.{Far, splits_at}

-- the place that splits the points from lo on, if one does
unfoldable pub split_of : Far → ℕ → Float → Option ℕ
split_of f lo t = cond (splits_at f lo t) (Some f.at) None

-- the places in the course of a call
abbrev pub places_in : Simplified → Place
places_in w = record { points = w.points; starts = w.starts }

-- the square of the distance of p from the segment from v to w
unfoldable pub segment_square_of : Vector → Vector → Vector → Float
segment_square_of p v w = from_segment distance_squared_of p v w

-- the farthest so far, as the definition has it: its distance is the root of its square
abbrev pub far_of : Best → Far
far_of b = record { at = b.at; far = or_nan (root_of b.square) }

-- the farthest of a scan by its records: the first of them whose root is that of the latest
unfoldable pub settled_of : Records → Best
settled_of r =
    cond (lt (or_nan (root_of r.second.square)) (or_nan (root_of r.first.square))) r.first
    (cond (lt (or_nan (root_of r.third.square)) (or_nan (root_of r.first.square))) r.second
    r.third)

-- x is 0, or above it and below y
abbrev pub Under : Float → Float → Type 0
Under x y = (x ≡ zero64) ⊎ ((lt zero64 x ≡ true) × (lt x y ≡ true))

-- each of the records is an f64 and below the next, unless the scan has none there yet
pub record Rising (r : Records) : Type 0 where
  pub third : Under r.third.square r.second.square
  pub second : Under r.second.square r.first.square
  pub first : (r.first.square ≡ zero64) ⊎ (lt zero64 r.first.square ≡ true)
  pub formats : T (fits binary64 r.first.square) × T (fits binary64 r.second.square) × T (fits binary64 r.third.square)
