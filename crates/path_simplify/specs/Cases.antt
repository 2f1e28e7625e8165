-- The paper's proved cases of simplify.
use Rattle.std.specs.Prelude.{◌≡◌, List, [], ◌∷◌, ℕ, replicate, Float}
use Rattle.std.specs.Float.{nan, binary64}
use Rattle.std.specs.Float.Ieee.{of_bits}
use Rattle.refusal.specs.Said.{accepted}
use Rattle.vector.specs.Lengths.{zero64, one64}
use Rattle.path_simplify.specs.Call.{simplify_left}

-- a threshold by its pattern, and how many points there are to be
pub data Case : Type 0 where
  points : ℕ → ℕ → Case

-- (0, 0, 0), (1, 1, 0), (2, 0, 0)
unfoldable pub roof : List Float
roof = zero64 ∷ zero64 ∷ zero64 ∷ one64 ∷ one64 ∷ zero64 ∷ of_bits binary64 0x4000_0000_0000_0000 ∷ zero64 ∷ zero64 ∷ []

-- one distance is measured in either case
abbrev pub Holds : Case → Type 0
Holds (points t n) = (simplify_left roof (0 ∷ []) (of_bits binary64 t) (replicate 9 nan) (0 ∷ [])).answer ≡ accepted (n ∷ 1 ∷ 1 ∷ [])

unfoldable pub paper : List Case
paper =
    points 0x3ff0_0000_0000_0000 2  -- threshold 1
    ∷ points 0x3fe0_0000_0000_0000 3  -- threshold 0.5
    ∷ []
