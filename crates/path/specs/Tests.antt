-- The tests that calls on points share.
use Rattle.std.specs.Prelude.{Bool, true, ◌&&◌, List, [], ◌∷◌, ℕ, ◌/◌, ◌%◌, length, leb, eqb, Float}
use Rattle.std.specs.Float.{binary64}
use Rattle.std.specs.Float.Ieee.{of_bits, le, lt}
use Rattle.refusal.specs.Limits.{most_points, most_strokes}
use Rattle.vector.specs.Abs.{abs_of}
use Rattle.vector.specs.Lengths.{zero64, one64}
use Rattle.path.specs.Strokes.{good_starts}

-- three numbers a point, and a good table
unfoldable pub shaped_of : List Float → List ℕ → Bool
shaped_of ps ss = eqb (length ps % 3) 0 && good_starts (length ps / 3) ss

-- within the limits
unfoldable pub counted_of : ℕ → ℕ → Bool
counted_of points strokes = leb points most_points && leb strokes most_strokes

-- the greatest magnitude of a coordinate, eye and plane too: 1,048,576.0
abbrev pub most_coordinate : Float
most_coordinate = of_bits binary64 0x4130_0000_0000_0000

-- of an entry of a matrix, as much
abbrev pub most_entry : Float
most_entry = of_bits binary64 0x4130_0000_0000_0000

-- the greatest step, width and height, as much
abbrev pub most_size : Float
most_size = of_bits binary64 0x4130_0000_0000_0000

-- magnitude within a bound, no NaN
abbrev pub within_of : Float → Float → Bool
within_of most x = le (abs_of x) most

abbrev pub all_within : Float → List Float → Bool
all_within most [] = true
all_within most (x ∷ xs) = within_of most x && all_within most xs

abbrev pub coordinate_good : Float → Bool
coordinate_good x = within_of most_coordinate x

unfoldable pub coordinates_good : List Float → Bool
coordinates_good xs = all_within most_coordinate xs

unfoldable pub entries_good : List Float → Bool
entries_good xs = all_within most_entry xs

-- a step: above 0, within the bound
unfoldable pub step_good : Float → Bool
step_good x = lt zero64 x && le x most_size

-- a width or a height: 0 to the bound
unfoldable pub size_good : Float → Bool
size_good x = le zero64 x && le x most_size

-- a tolerance: strictly between 0 and 1
unfoldable pub tolerance_good : Float → Bool
tolerance_good x = lt zero64 x && lt x one64
