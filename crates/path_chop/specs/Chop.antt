-- Cutting strokes into steps: a point after each step along a span, the steps a running sum.
use Rattle.std.specs.Prelude.{cond, List, [], ◌∷◌, ◌++◌, map, ℕ, zero, suc, ◌+◌, ◌/◌, length, Float}
use Rattle.std.specs.Float.{binary64}
use Rattle.std.specs.Float.Ieee.{add, div, lt}
use Rattle.refusal.specs.Limits.{most_points}
use Rattle.vector.specs.declared.Vector.{Vector}
use Rattle.vector.specs.Vectors.{add_of, sub_of, mul_scalar_of}
use Rattle.vector.specs.Lengths.{length_of}
use Rattle.path.specs.Strokes.{point_at, strokes_of}

-- one point above the most that may be written: no more are taken of a span. No accepted chop takes so many (`never-cut-off`, proofs/Uncut).
abbrev pub too_many : ℕ
too_many = most_points + 1

-- the point at distance d of l from a along v
abbrev pub along : Vector → Vector → Float → Float → Vector
along a v l d = add_of a (mul_scalar_of v (div binary64 d l))

-- d, d + step, and so on, while below l: the first n of them at most
unfoldable pub steps_of : ℕ → Float → Float → Float → List Float
steps_of zero l step d = []
steps_of (suc n) l step d = let r = d ∷ steps_of n l step (add binary64 d step) in cond (lt d l) r []

-- what a span from a to b gives after a, where v is b from a and l its length: n steps at most, and b
unfoldable pub cut : ℕ → Float → Vector → Vector → Vector → Float → List Vector
cut n step a b v l = map (along a v l) (steps_of n l step step) ++ (b ∷ [])

unfoldable pub span : ℕ → Float → Vector → Vector → List Vector
span n step a b = cut n step a b (sub_of b a) (length_of (sub_of b a))

-- the spans from a over the points that follow it
unfoldable pub spans : ℕ → Float → Vector → List Vector → List Vector
spans n step a [] = []
spans n step a (b ∷ vs) = span n step a b ++ spans n step b vs

-- a stroke of one point vanishes
unfoldable pub chopped : ℕ → Float → List Vector → List Vector
chopped n step [] = []
chopped n step (a ∷ []) = []
chopped n step (a ∷ b ∷ vs) = a ∷ spans n step a (b ∷ vs)

-- every stroke of the list, n steps a span at most
unfoldable pub chopped_by : ℕ → Float → List Float → List ℕ → List (List Vector)
chopped_by n step ps ss = map (chopped n step) (strokes_of (point_at ps) (length ps / 3) ss)

-- what a chop writes
abbrev pub chopped_of : Float → List Float → List ℕ → List (List Vector)
chopped_of step ps ss = chopped_by too_many step ps ss

-- ---- what the counting and the writing go by
