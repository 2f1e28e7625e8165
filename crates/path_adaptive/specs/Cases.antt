-- The paper's cases of chop_adaptive: the identity matrix, a screen of 10 by 10, tolerance 1e-9.
use Rattle.std.specs.Prelude.{◌≡◌, List, [], ◌∷◌, ℕ, replicate, Float}
use Rattle.std.specs.Float.{nan, binary64}
use Rattle.std.specs.Float.Ieee.{of_bits}
use Rattle.refusal.specs.Said.{accepted}
use Rattle.vector.specs.declared.matrix.Matrix.{Matrix}
use Rattle.vector.specs.Lengths.{zero64, one64}
use Rattle.path_adaptive.specs.Call.{adaptive_left}

-- the x of either end and a step, by their patterns, and how many points and halvings there are to be
pub data Case : Type 0 where
  halvings : ℕ → ℕ → ℕ → ℕ → ℕ → Case

abbrev pub from_to : ℕ → ℕ → List Float
from_to x y = of_bits binary64 x ∷ zero64 ∷ zero64 ∷ of_bits binary64 y ∷ zero64 ∷ zero64 ∷ []

abbrev pub identity : Matrix
identity =
    record {
      x00 = one64;
      x01 = zero64;
      x02 = zero64;
      x03 = zero64;
      x10 = zero64;
      x11 = one64;
      x12 = zero64;
      x13 = zero64;
      x20 = zero64;
      x21 = zero64;
      x22 = one64;
      x23 = zero64;
      x30 = zero64;
      x31 = zero64;
      x32 = zero64;
      x33 = one64;
    }

abbrev pub ten : Float
ten = of_bits binary64 0x4024_0000_0000_0000

abbrev pub billionth : Float
billionth = of_bits binary64 0x3e11_2e0b_e826_d695

abbrev pub Holds : Case → Type 0
Holds (halvings x y step points h) =
    (adaptive_left (from_to x y) (0 ∷ []) identity ten ten (of_bits binary64 step) billionth (replicate 15 nan) (0 ∷ [])).answer ≡ accepted (points ∷ 1 ∷ h ∷ [])

unfoldable pub paper : List Case
paper =
    halvings 0 0x4010_0000_0000_0000 0x4004_0000_0000_0000 3 1  -- from 0 to 4 by 2.5
    ∷ halvings 0 0x4010_0000_0000_0000 0x4000_0000_0000_0000 5 3  -- from 0 to 4 by 2
    ∷ halvings 0x4026_0000_0000_0000 0x402e_0000_0000_0000 0x4000_0000_0000_0000 2 0  -- from 11 to 15, past the screen
    ∷ []
