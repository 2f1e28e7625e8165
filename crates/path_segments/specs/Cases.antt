-- Joined segments, worked by hand.
use Rattle.std.specs.Prelude.{◌≡◌, List, [], ◌∷◌}
use Rattle.std.specs.Float.{binary64}
use Rattle.std.specs.Float.Ieee.{of_bits}
use Rattle.vector.specs.declared.Vector.{Vector}
use Rattle.path_segments.specs.Join.{origin, join_of}

-- (1, 0, 0)
abbrev pub beside : Vector
beside = record { x = of_bits binary64 0x3ff0_0000_0000_0000; y = origin.y; z = origin.z }

-- segments, and the strokes that they join to
pub data Case : Type 0 where
  joins : List (List Vector) → List (List Vector) → Case

abbrev pub Holds : Case → Type 0
Holds (joins given out) = join_of given ≡ out

abbrev pub dot : List Vector
dot = origin ∷ origin ∷ []

abbrev pub forth : List Vector
forth = origin ∷ beside ∷ []

unfoldable pub worked : List Case
worked =
    joins (dot ∷ []) (dot ∷ [])  -- a segment of no length stays
    ∷ joins (forth ∷ forth ∷ []) ((beside ∷ origin ∷ beside ∷ []) ∷ [])  -- one given twice is drawn twice
    ∷ joins (forth ∷ dot ∷ []) ((beside ∷ origin ∷ origin ∷ []) ∷ [])  -- joined where points are the same
    ∷ []
