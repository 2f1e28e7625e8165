-- The paper's proved cases of drawing.
use Rattle.std.specs.Prelude.{◌≡◌, List, [], ◌∷◌, ℕ, Float}
use Rattle.std.specs.Float.{binary64}
use Rattle.std.specs.Float.Ieee.{of_bits}
use Rattle.vector.specs.Vectors.{vec}
use Rattle.vector.specs.Lengths.{zero64, one64}
use Rattle.mesh_mode.specs.declared.Mode.{Mode}
use Rattle.mesh_mode.specs.declared.Mode.TheVariants.{Triangles, Polygonal}
use Rattle.mesh_strokes.specs.Draw.{drawing_of}

pub data Case : Type 0 where
  draws : Mode → List ℕ → List (List ℕ) → Case

-- the square (0,0,0) (1,0,0) (1,1,0) (0,1,0)
abbrev pub square : List Float
square = zero64 ∷ zero64 ∷ zero64 ∷ one64 ∷ zero64 ∷ zero64 ∷ one64 ∷ one64 ∷ zero64 ∷ zero64 ∷ one64 ∷ zero64 ∷ []

-- 1e-9
abbrev pub tolerance : Float
tolerance = of_bits binary64 0x3e11_2e0b_e826_d695

-- seen from (0,0,0), with no flips
abbrev pub Holds : Case → Type 0
Holds (draws mode faces strokes) = drawing_of mode (vec zero64 zero64 zero64) tolerance [] square faces ≡ strokes

unfoldable pub paper : List Case
paper =
    draws Triangles (0 ∷ 1 ∷ 2 ∷ []) ((1 ∷ 0 ∷ 2 ∷ 1 ∷ []) ∷ [])
    ∷ draws Triangles (0 ∷ 1 ∷ 2 ∷ 0 ∷ 2 ∷ 3 ∷ []) ((0 ∷ 2 ∷ 3 ∷ 0 ∷ 1 ∷ 2 ∷ []) ∷ [])
    ∷ draws Polygonal (0 ∷ 1 ∷ 2 ∷ 0 ∷ 2 ∷ 3 ∷ []) ((1 ∷ 0 ∷ 3 ∷ 2 ∷ 1 ∷ []) ∷ [])
    ∷ []
