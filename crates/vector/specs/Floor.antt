-- The greatest whole number not above a value, for a magnitude below 2 ^ 53.
use Rattle.std.specs.Prelude.{◌≡◌, ℕ, ◌+◌, ◌-◌, ◌*◌, ◌/◌, ◌^◌, ◌<◌, ◌≤◌, Bool, true, false, cond, [], ◌∷◌, ℤ, pos, ◌+ℤ◌, ◌*ℤ◌, neg_ℤ, ◌≤ℤ◌, ◌<ℤ◌, nat_lt, Float}
use Rattle.std.specs.Float.{nan, inf, fin}
use Rattle.std.specs.Float.Ieee.{up, down}
use Rattle.refusal.specs.Said.{Said, accepted, refused}
use Rattle.refusal.specs.declared.Refusal.TheVariants.{Number}

-- ---- worked out

-- the greatest whole number not above a / d, or not above -a / d
abbrev pub whole_below : Bool → ℕ → ℕ → ℤ
whole_below false a d = pos (a / d)
whole_below true a d = neg_ℤ (pos ((a + (d - 1)) / d))

-- a finite value is a quotient of whole numbers, ± m * up e / down e
unfoldable pub floor_of : Float → Said ℤ
floor_of nan = refused Number
floor_of (inf s) = refused Number
floor_of (fin s m e) = cond (nat_lt (m * up e) (2 ^ 53 * down e)) (accepted (whole_below s (m * up e) (down e) ∷ [])) (refused Number)

-- ---- the same as an order of whole numbers

abbrev pub signed : Bool → ℕ → ℤ
signed false a = pos a
signed true a = neg_ℤ (pos a)

-- z ≤ ± a / d < z + 1
pub record Greatest (s : Bool) (a d : ℕ) (z : ℤ) : Type 0 where
  pub not_above : (z *ℤ pos d) ≤ℤ (signed s a)
  pub next_above : (signed s a) <ℤ ((z +ℤ pos 1) *ℤ pos d)

unfoldable pub FloorOf : Float → Said ℤ → Type 0
FloorOf nan r = r ≡ refused Number
FloorOf (inf s) r = r ≡ refused Number
FloorOf (fin s m e) r =
    (m * up e < 2 ^ 53 * down e → (z : ℤ) × (r ≡ accepted (z ∷ [])) × Greatest s (m * up e) (down e) z)
    × (2 ^ 53 * down e ≤ m * up e → r ≡ refused Number)
