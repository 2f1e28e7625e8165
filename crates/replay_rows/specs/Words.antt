-- Words as numbers, and the places of words in a row.
use Rattle.std.specs.Prelude.{ℕ, ◌+◌, Bool, cond, ◌==◌, nat_lt, to_bits, Float}
use Rattle.std.specs.Float.{binary64}
use Rattle.std.specs.Float.Ieee.{eq, nan_bits}

-- whether a number has a pattern, or both are NaN
unfoldable pub same_of : Float → ℕ → Bool
same_of x b = cond (eq x x) (to_bits binary64 x == b) (nan_bits binary64 b)

-- the place n words on; 249 is past every row
unfoldable pub past_of : ℕ → ℕ → ℕ
past_of at n = cond (nat_lt (at + n) 249) (at + n) 249
