-- The paper's proved cases of floor and root.
use Rattle.std.specs.Prelude.{◌≡◌, ℕ, List, [], ◌∷◌, ℤ, pos, negsuc, from_bits}
use Rattle.std.specs.Float.{binary64}
use Rattle.refusal.specs.Said.{accepted}
use Rattle.vector.specs.Floor.{floor_of}
use Rattle.vector.specs.Root.{root_of}

-- a value by its pattern, and what is to be answered; a root by its pattern too
pub data Case : Type 0 where
  floors : ℕ → ℤ → Case
  roots : ℕ → ℕ → Case

abbrev pub Holds : Case → Type 0
Holds (floors x z) = floor_of (from_bits binary64 x) ≡ accepted (z ∷ [])
Holds (roots x y) = root_of (from_bits binary64 x) ≡ accepted (from_bits binary64 y ∷ [])

unfoldable pub paper : List Case
paper =
    floors 0xbfe0_0000_0000_0000 (negsuc 0)  -- -0.5 gives -1
    ∷ floors 0x8000_0000_0000_0000 (pos 0)  -- -0 gives 0
    ∷ floors 0x3fec_cccc_cccc_cccd (pos 0)  -- 0.9 gives 0
    ∷ floors 0xbff0_0000_0000_0000 (negsuc 0)  -- -1 gives -1
    ∷ roots 0x4010_0000_0000_0000 0x4000_0000_0000_0000  -- 4 gives 2
    ∷ roots 0x4000_0000_0000_0000 0x3ff6_a09e_667f_3bcd  -- 2
    ∷ []
