-- The numbers that a positive f64 counts, by its pattern.
use Rattle.std.specs.Prelude.{ℕ, zero, suc, ◌+◌, ◌*◌, ◌/◌, ◌%◌, ◌^◌}

-- the units, of 2 ^ -1074, of a positive f64 by its exponent field and its digits field
abbrev pub units_at : ℕ → ℕ → ℕ
units_at zero t = t
units_at (suc x) t = (2 ^ 52 + t) * 2 ^ x

-- the same by its pattern, below that of infinity
unfoldable pub at : ℕ → ℕ
at b = units_at (b / 2 ^ 52) (b % 2 ^ 52)
