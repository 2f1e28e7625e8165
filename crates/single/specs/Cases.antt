-- Worked cases of the definitions.
use Rattle.std.specs.Prelude.{◌≡◌, false, List, [], ◌∷◌, ℕ}
use Rattle.std.specs.Float.{binary64}
use Rattle.std.specs.Float.Ieee.{of_bits}
use Rattle.single.specs.Singles.{is_single, value_of, pattern_of}

-- a number by its f32's pattern and by its f64's; a number, by its f64's pattern, that is no f32
pub data Case : Type 0 where
  same : ℕ → ℕ → Case
  wide : ℕ → Case

abbrev pub Holds : Case → Type 0
Holds (same p b) = (value_of p ≡ of_bits binary64 b) × (pattern_of (of_bits binary64 b) ≡ p)
Holds (wide b) = is_single (of_bits binary64 b) ≡ false

unfoldable pub worked : List Case
worked =
    same 0x3f80_0000 0x3ff0_0000_0000_0000  -- 1
    ∷ same 0xc020_0000 0xc004_0000_0000_0000  -- -2.5
    ∷ same 0x8000_0000 0x8000_0000_0000_0000  -- -0
    ∷ same 0x0000_0001 0x36a0_0000_0000_0000  -- 2^-149, the least f32
    ∷ same 0x007f_ffff 0x380f_ffff_c000_0000  -- the greatest subnormal f32
    ∷ same 0x7f7f_ffff 0x47ef_ffff_e000_0000  -- the greatest f32
    ∷ same 0xff80_0000 0xfff0_0000_0000_0000  -- -infinity
    ∷ wide 0x3fb9_9999_9999_999a  -- 0.1
    ∷ wide 0x3ff0_0000_1000_0000  -- 1 + 2^-24
    ∷ wide 0x3690_0000_0000_0000  -- 2^-150
    ∷ wide 0x36a8_0000_0000_0000  -- 1.5 times 2^-149
    ∷ wide 0x47f0_0000_0000_0000  -- 2^128
    ∷ []
