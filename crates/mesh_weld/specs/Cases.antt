-- The paper's proved cases of welding: one face whose corners lie on the x axis.
use Rattle.std.specs.Prelude.{◌≡◌, List, [], ◌∷◌, ℕ, Float}
use Rattle.std.specs.Float.{binary64}
use Rattle.std.specs.Float.Ieee.{of_bits}
use Rattle.mesh_weld.specs.Weld.{weld_of}

-- the x of the three corners by their patterns, and the vertex of each
pub data Case : Type 0 where
  welds : ℕ → ℕ → ℕ → List ℕ → Case

abbrev pub face : ℕ → ℕ → ℕ → List Float
face a b c = let z = of_bits binary64 0 in of_bits binary64 a ∷ z ∷ z ∷ of_bits binary64 b ∷ z ∷ z ∷ of_bits binary64 c ∷ z ∷ z ∷ []

abbrev pub Holds : Case → Type 0
Holds (welds a b c numbers) = (weld_of (face a b c)).indices ≡ numbers

unfoldable pub paper : List Case
paper =
    welds 0 0x3eb0_c6f7_a0b5_ed8d 0 (0 ∷ 1 ∷ 0 ∷ [])  -- 0, 0.000001, 0
    ∷ welds 0 0x3ea4_21f5_f40d_8376 0x3eb4_21f5_f40d_8376 (0 ∷ 0 ∷ 1 ∷ [])  -- 0, 6e-7, 1.2e-6
    ∷ welds 0x3eb9_2a73_7110_e454 0 0x3eae_32f0_ee14_4531 (0 ∷ 1 ∷ 1 ∷ [])  -- 1.5e-6, 0, 9e-7
    ∷ []
