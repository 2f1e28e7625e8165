-- What the steps of the square root say: of f64 up to the rough root and Heron's steps, of whole numbers from there on.
use Rattle.std.specs.Prelude.{◌≡◌, ℕ, ◌+◌, ◌-◌, ◌*◌, ◌^◌, ◌<◌, ◌≤◌, cond, from_bits, nat_lt, Float}
use Rattle.std.specs.Float.{binary64}
use Rattle.std.specs.Float.Ieee.{add, mul, div}

-- r is the whole part of the root of n
pub record Digits (n r : ℕ) : Type 0 where
  pub not_above : r * r ≤ n
  pub next_above : n < (r + 1) * (r + 1)

-- the line near the root of n: its slope, 53 / 2^32 below 2^53 and 75 / 2^33 from there on
abbrev pub slope_of : ℕ → Float
slope_of n = cond (nat_lt n (2 ^ 53)) (from_bits binary64 0x3e4a_8000_0000_0000) (from_bits binary64 0x3e42_c000_0000_0000)

-- and the height at which it begins, 39845888 and 56360960
abbrev pub height_of : ℕ → Float
height_of n = cond (nat_lt n (2 ^ 53)) (from_bits binary64 0x4183_0000_0000_0000) (from_bits binary64 0x418a_e000_0000_0000)

-- what it has at h, half of n
abbrev pub rough_of : ℕ → Float → Float
rough_of n h = add binary64 (mul binary64 h (slope_of n)) (height_of n)

-- Heron's step from r, by the half h of the number: h / r + r / 2
abbrev pub heron_of : Float → Float → Float
heron_of h r = add binary64 (div binary64 h r) (div binary64 r (from_bits binary64 0x4000_0000_0000_0000))

-- r is the whole part of the root of n, or 1 above
pub record Close (n r : ℕ) : Type 0 where
  pub some : 1 ≤ r
  pub most : r < 2 ^ 28
  pub near : (r - 1) * (r - 1) ≤ n
  pub next_above : n < (r + 1) * (r + 1)

-- n units are d * 2 ^ (e - 1024), and d has 53 binary digits
pub record Normal (n d e : ℕ) : Type 0 where
  pub least : 2 ^ 52 ≤ d
  pub most : d < 2 ^ 53
  pub low : 972 ≤ e
  pub high : e ≤ 3069
  pub same : n * 2 ^ 1024 ≡ d * 2 ^ e

-- y units are nearest to the root of n units, among the numbers of at most 53 digits with zeros behind
pub record NearestUnits (n y : ℕ) : Type 0 where
  pub above : (m j : ℕ) → m < 2 ^ 53 → y < m * 2 ^ j → n * 2 ^ 1076 < (y + m * 2 ^ j) * (y + m * 2 ^ j)
  pub below : (m j : ℕ) → m < 2 ^ 53 → m * 2 ^ j < y → (m * 2 ^ j + y) * (m * 2 ^ j + y) < n * 2 ^ 1076
