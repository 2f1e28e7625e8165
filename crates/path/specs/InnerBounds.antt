-- What the test of a number against a bound goes by.
use Rattle.std.specs.Prelude.{◌≡◌, false, ℕ, pos, Float}
use Rattle.std.specs.Float.{fin}

-- a bound is a power of two
pub record Bound (most : Float) : Type 0 where
  pub power : ℕ
  pub is : most ≡ fin false 1 (pos power)
