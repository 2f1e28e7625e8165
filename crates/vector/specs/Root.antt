-- The square root: the nearest f64.
use Rattle.std.specs.Prelude.{◌≡◌, ℕ, zero, suc, ◌+◌, ◌-◌, ◌*◌, ◌/◌, ◌^◌, ◌<◌, Bool, true, false, cond, T, [], ◌∷◌, from_bits, nat_lt, Float}
use Rattle.std.specs.Float.{nan, inf, fin, binary64}
use Rattle.std.specs.Float.Ieee.{up, down, fits}
use Rattle.refusal.specs.Said.{Said, accepted, refused}
use Rattle.refusal.specs.declared.Refusal.TheVariants.{Number}
use Rattle.vector.specs.Units.{at}

-- ---- what the nearest is

-- the size of a finite value, counted in units of 2 ^ -1074, the smallest positive f64: every f64 is a whole number of them
unfoldable pub units_of : Float → ℕ
units_of nan = 0
units_of (inf s) = 0
units_of (fin s m e) = m * up e * 2 ^ 1074 / down e

-- finite and not below zero
abbrev pub plain : Float → Bool
plain nan = false
plain (inf s) = false
plain (fin true m e) = false
plain (fin false m e) = true

-- y is the f64 nearest to the root of x. Counted in units of 2 ^ -2150 the value of x is units_of x * 2 ^ 1076.
-- Counted in units of 2 ^ -1075 the midpoint of two f64 is the sum of their units.
-- So for each f64 above y, and the next above among them, the value is below the square of the midpoint; and so below.
pub record Nearest (x y : Float) : Type 0 where
  pub format : T (fits binary64 y)
  pub sign : T (plain y)
  pub above : (z : Float) → T (fits binary64 z) → T (plain z) → units_of y < units_of z → units_of x * 2 ^ 1076 < (units_of y + units_of z) * (units_of y + units_of z)
  pub below : (z : Float) → T (fits binary64 z) → T (plain z) → units_of z < units_of y → (units_of z + units_of y) * (units_of z + units_of y) < units_of x * 2 ^ 1076

-- zeros keep their sign, infinity is its own root, NaN and what is below zero are refused
unfoldable pub RootOf : Float → Said Float → Type 0
RootOf nan r = r ≡ refused Number
RootOf (inf true) r = r ≡ refused Number
RootOf (inf false) r = r ≡ accepted (inf false ∷ [])
RootOf (fin s zero e) r = r ≡ accepted (fin s zero e ∷ [])
RootOf (fin true (suc m) e) r = r ≡ refused Number
RootOf (fin false (suc m) e) r = (y : Float) × (r ≡ accepted (y ∷ [])) × Nearest (fin false (suc m) e) y

-- ---- the same, worked out

-- the greatest of the numbers from c up to, and without, c + 2 ^ k, that passes the test, for a test that c passes and that no number passes above one that does not
unfoldable pub greatest : (ℕ → Bool) → ℕ → ℕ → ℕ
greatest p zero c = c
greatest p (suc k) c = greatest p k (cond (p (c + 2 ^ k)) (c + 2 ^ k) c)

-- the midpoint of a positive f64 and the one below it, by the pattern, in units of 2 ^ -1075
unfoldable pub mid : ℕ → ℕ
unfolding at
mid c = at (c - 1) + at c

-- the square of the midpoint is below the value of n units, both in units of 2 ^ -2150
unfoldable pub under : ℕ → ℕ → Bool
unfolding mid
under n c = nat_lt (mid c * mid c) (n * 2 ^ 1076)

-- the pattern of the root of n units
unfoldable pub root_bits : ℕ → ℕ
unfolding greatest under
root_bits n = greatest (under n) 63 0

unfoldable pub root_of : Float → Said Float
unfolding root_bits units_of
root_of nan = refused Number
root_of (inf true) = refused Number
root_of (inf false) = accepted (inf false ∷ [])
root_of (fin s zero e) = accepted (fin s zero e ∷ [])
root_of (fin true (suc m) e) = refused Number
root_of (fin false (suc m) e) = accepted (from_bits binary64 (root_bits (units_of (fin false (suc m) e))) ∷ [])
