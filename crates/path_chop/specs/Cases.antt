-- The paper's proved cases of chop.
use Rattle.std.specs.Prelude.{◌≡◌, List, [], ◌∷◌, ℕ, replicate, Float}
use Rattle.std.specs.Float.{nan, binary64}
use Rattle.std.specs.Float.Ieee.{of_bits}
use Rattle.refusal.specs.Said.{accepted}
use Rattle.vector.specs.Lengths.{zero64, one64}
use Rattle.path_chop.specs.Call.{chop_left}

-- a step by its pattern, and how many points there are to be
pub data Case : Type 0 where
  points : ℕ → ℕ → Case

-- (0, 0, 0) to (1, 0, 0)
unfoldable pub line : List Float
line = zero64 ∷ zero64 ∷ zero64 ∷ one64 ∷ zero64 ∷ zero64 ∷ []

abbrev pub Holds : Case → Type 0
Holds (points step n) = (chop_left line (0 ∷ []) (of_bits binary64 step) (replicate 15 nan) (0 ∷ [])).answer ≡ accepted (n ∷ 1 ∷ [])

unfoldable pub paper : List Case
paper =
    points 0x3fd0_0000_0000_0000 5  -- step 0.25
    ∷ points 0x3ff0_0000_0000_0000 2  -- step 1
    ∷ []
