-- Single faces, worked by hand.
use Rattle.std.specs.Prelude.{◌≡◌, List, [], ◌∷◌, ℕ, Float}
use Rattle.std.specs.Float.{binary64}
use Rattle.std.specs.Float.Ieee.{of_bits}
use Rattle.vector.specs.declared.Vector.{Vector}
use Rattle.vector.specs.Vectors.{vec}
use Rattle.vector.specs.Lengths.{zero64, one64}
use Rattle.mesh_section.specs.declared.Plane.{Plane}
use Rattle.mesh_contour_rule.specs.Contour.{corner_by, segment_by}

abbrev pub half : Float
half = of_bits binary64 0x3fe0_0000_0000_0000

abbrev pub two : Float
two = of_bits binary64 0x4000_0000_0000_0000

-- 1e-9
abbrev pub fine : Float
fine = of_bits binary64 0x3e11_2e0b_e826_d695

-- through (1, 0, 0), with the normal (1, 0, 0)
abbrev pub upright : Plane
upright = record { point = vec one64 zero64 zero64; normal = vec one64 zero64 zero64 }

-- a tolerance, the corners of a face with their numbers, and the points of its segment
pub data Case : Type 0 where
  gives : Float → ℕ → Vector → ℕ → Vector → ℕ → Vector → List Vector → Case

abbrev pub Holds : Case → Type 0
Holds (gives tolerance i u j v k w points) = segment_by (corner_by upright tolerance i u) (corner_by upright tolerance j v) (corner_by upright tolerance k w) ≡ points

-- (0, 0, 0), (1, 0, 0), (1, 1, 0), (2, 0, 0)
abbrev pub origin : Vector
origin = vec zero64 zero64 zero64

abbrev pub foot : Vector
foot = vec one64 zero64 zero64

abbrev pub top : Vector
top = vec one64 one64 zero64

abbrev pub beyond : Vector
beyond = vec two zero64 zero64

-- 1.5 and 1.25
abbrev pub more : Float
more = of_bits binary64 0x3ff8_0000_0000_0000

abbrev pub slightly_more : Float
slightly_more = of_bits binary64 0x3ff4_0000_0000_0000

unfoldable pub worked : List Case
worked =
    gives fine 0 origin 1 top 2 beyond (top ∷ foot ∷ [])  -- a corner on the plane, and the crossing of the side against it
    ∷ gives fine 2 beyond 0 origin 1 top (foot ∷ top ∷ [])  -- the same face begun elsewhere: in the order met
    ∷ gives fine 0 foot 1 top 2 beyond (foot ∷ top ∷ [])  -- two on the plane, the third above
    ∷ gives fine 0 foot 1 top 2 origin []  -- and the third below
    ∷ gives half 0 (vec more zero64 zero64) 1 (vec half zero64 zero64) 2 (vec slightly_more one64 zero64) (foot ∷ vec slightly_more one64 zero64 ∷ [])  -- a height of just the tolerance is above or below, not on
    ∷ []
