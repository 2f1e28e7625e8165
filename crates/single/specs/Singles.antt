-- The numbers of single precision (f32), and their patterns.
use Rattle.std.specs.Prelude.{Bool, not, cond, ◌&&◌, ℕ, zero, suc, ◌+◌, ◌*◌, ◌^◌, Float}
use Rattle.std.specs.Float.{binary32}
use Rattle.std.specs.Float.Ieee.{fits, is_nan, of_bits, to_bits}

-- whether a number is exactly an f32: both zeros, subnormal f32 and the infinities are, and NaN counts as one
abbrev pub is_single : Float → Bool
is_single x = fits binary32 x

-- the number that a pattern stands for: every NaN pattern is NaN
abbrev pub value_of : ℕ → Float
value_of p = of_bits binary32 p

-- the pattern of a number that is exactly an f32 and no NaN, else 0
unfoldable pub pattern_of : Float → ℕ
pattern_of x = cond (is_single x && not (is_nan x)) (to_bits binary32 x) 0

-- how many times 2 ^ -149 a finite f32 is in size, by its exponent's field and its digits
abbrev pub units_at : ℕ → ℕ → ℕ
units_at zero t = t
units_at (suc x) t = (2 ^ 23 + t) * 2 ^ x
