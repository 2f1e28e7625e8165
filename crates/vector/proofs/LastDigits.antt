-- 2^52 added to a number leaves the whole number nearest to it in the last digits of the pattern.
use Rattle.std.proofs.Common.{◌≡◌, ℕ, zero, suc, ◌+◌, ◌-◌, ◌*◌, ◌/◌, ◌%◌, ◌^◌, ◌<◌, ◌≤◌, true, false, not, T, ℤ, pos, sym, refl, ap, ◌∙◌, subst, ⊎_elim, le_trans, le_of_eq, lt_of_lt_of_le, lt_of_le_of_lt, lt_irrefl, mul-le-mul_right, mul_assoc, mul_comm, div-lt_iff_lt-mul, mul-lt-mul_of_pos_right, mul-pos, lt_of_not-le, le-div_iff_mul-le, mul_right_comm, arith, lit<, pow_pos, pow_mono, pow-add, shl_lt}
use native.Mathlib.Nat.{div-le_of_le-mul}
use lib.Ieee.{Float, nan, inf, fin, up, down, binary64, fits, round, add, le, size, to_bits, is_nan}
use lib.Ieee.Digits.{size-lt, size-le}
use lib.Ieee.Exact.{HasValue}
use lib.Ieee.Fits.{add-fits, down_pos}
use lib.Ieee.Nearest.{closest, closest_same}
use lib.Ieee.Order.{drop, round_mono}
use lib.Ieee.Scale.{grid, round_val}
use lib.Ieee.Positive.{num, den, positive, den_pos}
use Rattle.vector.specs.Root.{units_of}
use Rattle.vector.specs.Units.{at}
use Rattle.vector.proofs.Roots.{lt-or_ge, at_high}
use Rattle.vector.proofs.Patterns.{units_bits}
use Rattle.vector.proofs.RootSearch.{at-step, at-mono}
use Rattle.vector.proofs.Between.{Between, amid, add_is}

-- ---- a quarter more or less than a whole number of 53 digits is rounded to it
quarter_less : (j : ℕ) → closest (4 * j + 3) 4 ≡ suc j
quarter_less j =
    let q : (4 * j + 3) / 4 ≡ j = omega arith in
    let r : (4 * j + 3) % 4 ≡ 3 = omega arith in
    rw (q, r) refl

quarter_more : (k : ℕ) → closest (4 * k + 1) 4 ≡ k
quarter_more k =
    let q : (4 * k + 1) / 4 ≡ k = omega arith in
    let r : (4 * k + 1) % 4 ≡ 1 = omega arith in
    rw (q, r) refl

dropped_digits : (m : ℕ) → m ≤ 1127 → 1126 < m → m - 53 ≡ 1074
dropped_digits m l o = omega arith

room : 54 + 1074 ≤ 2098
room = omega arith

module _ (k d : ℕ) (least : 2 ^ 52 * 4 ≤ d) (most : d < 2 ^ 53 * 4) (next : closest d 4 ≡ k) (few : k < 2 ^ 54) where
  dropped : drop 53 (d * 2 ^ 1074) 4 ≡ 1074
  dropped =
      let m = size (d * 2 ^ 1074 / 4) in
      let l : m ≤ 1127 = size-le (d * 2 ^ 1074 / 4) 1127 ((div-lt_iff_lt-mul {x = d * 2 ^ 1074} {y = 2 ^ 1127} (lit< tt)).1
      (lt_of_lt_of_le (mul-lt-mul_of_pos_right most (pow_pos 1074)) (le_of_eq (mul_right_comm (2 ^ 53) 4 (2 ^ 1074) ∙ ap (λ (x : ℕ). x * 4) (sym (pow-add 2 53 1074)))))) in
      let g : 2 ^ 1126 ≤ d * 2 ^ 1074 / 4 = (le-div_iff_mul-le {x = 2 ^ 1126} {y = d * 2 ^ 1074} (lit< tt)).1
      (le_trans (le_of_eq (ap (λ (x : ℕ). x * 4) (pow-add 2 52 1074) ∙ mul_right_comm (2 ^ 52) (2 ^ 1074) 4)) (mul-le-mul_right (2 ^ 1074) least)) in
      let o : 1126 < m = lt_of_not-le (λ (f : m ≤ 1126). lt_irrefl (2 ^ 1126) (lt_of_le_of_lt g (lt_of_lt_of_le (size-lt (d * 2 ^ 1074 / 4)) (pow_mono f)))) in
      dropped_digits m l o

  on-grid : grid binary64 d 4 ≡ k * 2 ^ 1074
  on-grid =
      ap (λ (z : ℕ). closest (d * 2 ^ 1074) (4 * 2 ^ z) * 2 ^ z) dropped
      ∙ ap (λ (z : ℕ). z * 2 ^ 1074)
      (closest_same (d * 2 ^ 1074) (4 * 2 ^ 1074) d 4 (mul-pos {m = 4} (lit< tt) (pow_pos 1074)) (lit< tt) (mul_assoc d (2 ^ 1074) 4 ∙ ap (λ (z : ℕ). d * z) (mul_comm (2 ^ 1074) 4)) ∙ next)

  value : HasValue (round binary64 false d 4) false (k * 2 ^ 1074) (2 ^ 1074)
  value =
      subst (λ (z : ℕ). HasValue (round binary64 false d 4) false z (2 ^ 1074)) on-grid
      (round_val binary64 d 4 (subst (λ (z : ℕ). z < 2 ^ 2098) (sym on-grid) (lt_of_lt_of_le (shl_lt 54 1074 few) (pow_mono room))))

-- ---- the pattern of a number from the whole number 2^52 + s up to the next
after : (a b : ℕ) → a < b → a + 1 ≤ b
after a b h = omega arith

after_next : (a s b : ℕ) → a + s + 1 < b → a + (s + 1) + 1 ≤ b
after_next a s b h = omega arith

whole_pos : (t : ℕ) → 0 < (2 ^ 52 + t) * 2 ^ 1074
whole_pos t = mul-pos (some t) (pow_pos 1074)
  where
    some : (t : ℕ) → 0 < 2 ^ 52 + t
    some t = omega arith

at-whole : (t : ℕ) → t < 2 ^ 52 → at (1075 * 2 ^ 52 + t) ≡ (2 ^ 52 + t) * 2 ^ 1074
at-whole t h =
    let r : (1075 * 2 ^ 52 + t) % 2 ^ 52 ≡ t = omega arith in
    let q : (1075 * 2 ^ 52 + t) / 2 ^ 52 ≡ suc 1074 = omega arith in
    at_high (1075 * 2 ^ 52 + t) 1074 q ∙ ap (λ (z : ℕ). (2 ^ 52 + z) * 2 ^ 1074) r

opened : (m : ℕ) (e : ℤ) → suc m * up e * 2 ^ 1074 / down e ≡ units_of (fin false (suc m) e)
unfolding units_of
opened m e = refl

positive_no_nan : (x : Float) → T (positive x) → T (not (is_nan x))
unfolding is_nan
positive_no_nan nan p = absurd p
positive_no_nan (inf t) p = absurd p
positive_no_nan (fin t m e) p = tt

module _ (s : ℕ) (some : 0 < s) (small : s < 2 ^ 51) where
  abbrev pattern : ℕ
  pattern = 1075 * 2 ^ 52 + s

  in_range : s < 2 ^ 52
  in_range = omega arith

  next_in_range : s + 1 < 2 ^ 52
  next_in_range = omega arith

  -- patterns are in the order of their numbers
  by_units : (b : ℕ) → (2 ^ 52 + s) * 2 ^ 1074 ≤ at b → at b ≤ (2 ^ 52 + (s + 1)) * 2 ^ 1074 → (pattern ≤ b) × (b ≤ pattern + 1)
  by_units b h g = (⊎_elim (λ l. absurd (low l)) (λ l. l) (lt-or_ge b pattern), ⊎_elim (λ l. absurd (high l)) (λ l. l) (lt-or_ge (pattern + 1) b))
    where
      low : b < pattern → ⊥
      low l = lt_irrefl (at b) (lt_of_lt_of_le (at-step b) (le_trans (at-mono (b + 1) pattern (after b pattern l)) (le_trans (le_of_eq (at-whole s in_range)) h)))

      high : pattern + 1 < b → ⊥
      high l =
          let t = 1075 * 2 ^ 52 + (s + 1) in
          lt_irrefl (at t) (lt_of_lt_of_le (at-step t) (le_trans (at-mono (t + 1) b (after_next (1075 * 2 ^ 52) s b l)) (le_trans g (le_of_eq (sym (at-whole (s + 1) next_in_range))))))

  by_value : (x : Float) → T (fits binary64 x) → T (positive x) → (2 ^ 52 + s) * 2 ^ 1074 * den x ≤ num x * 2 ^ 1074 → num x * 2 ^ 1074 ≤ (2 ^ 52 + (s + 1)) * 2 ^ 1074 * den x
      → (pattern ≤ to_bits binary64 x) × (to_bits binary64 x ≤ pattern + 1)
  by_value nan f p h g = absurd p
  by_value (inf t) f p h g = absurd p
  by_value (fin true m e) f p h g = absurd p
  by_value (fin false zero e) f p h g = absurd p
  by_value (fin false (suc m) e) f p h g =
      let u = opened m e ∙ units_bits m e f in
      by_units (to_bits binary64 (fin false (suc m) e))
      (le_trans ((le-div_iff_mul-le {k = down e} {x = (2 ^ 52 + s) * 2 ^ 1074} {y = suc m * up e * 2 ^ 1074} (down_pos e)).1 h) (le_of_eq u))
      (le_trans (le_of_eq (sym u)) (div-le_of_le-mul (down e) (le_trans g (le_of_eq (mul_comm ((2 ^ 52 + (s + 1)) * 2 ^ 1074) (down e))))))

  held : (x y c : Float) → T (fits binary64 c) → HasValue x false ((2 ^ 52 + s) * 2 ^ 1074) (2 ^ 1074) → HasValue y false ((2 ^ 52 + (s + 1)) * 2 ^ 1074) (2 ^ 1074) → T (le x c) → T (le c y)
      → T (not (is_nan c)) × (pattern ≤ to_bits binary64 c) × (to_bits binary64 c ≤ pattern + 1)
  held x y c fit v w f g =
      let o = amid ((2 ^ 52 + s) * 2 ^ 1074) ((2 ^ 52 + (s + 1)) * 2 ^ 1074) (2 ^ 1074) x c y v w (whole_pos s) (whole_pos (s + 1)) f g in
      let b = by_value c fit o.0 o.1 o.2 in
      (positive_no_nan c o.0, b.0, b.1)

  -- a quarter below the first, and a quarter above the next
  abbrev below : ℕ
  below = 4 * (4503599627370495 + s) + 3

  abbrev above : ℕ
  above = 4 * (2 ^ 52 + (s + 1)) + 1

  first : HasValue (round binary64 false below 4) false ((2 ^ 52 + s) * 2 ^ 1074) (2 ^ 1074)
  first = value (2 ^ 52 + s) below (omega arith) (omega arith) (quarter_less (4503599627370495 + s) ∙ omega arith) (omega arith)

  next : HasValue (round binary64 false above 4) false ((2 ^ 52 + (s + 1)) * 2 ^ 1074) (2 ^ 1074)
  next = value (2 ^ 52 + (s + 1)) above (omega arith) (omega arith) (quarter_more (2 ^ 52 + (s + 1))) (omega arith)

  -- what lies between these two is rounded to one of the two numbers
  module _ (l u : ℕ) (z : Float) (lies : Between l u z) (low : 2 ^ 6 * (4 * s) ≤ l + 2 ^ 6) (high : u ≤ (4 * s + 5) * 2 ^ 6) where
    abbrev whole : Float
    whole = add binary64 z (fin false 1 (pos 52))

    rounds : round binary64 false (num z * 1 + 1 * 2 ^ 52 * den z) (den z * 1) ≡ whole
    rounds = sym (add_is z (fin false 1 (pos 52)) lies.some tt)

    pub last_digits : T (not (is_nan whole)) × (pattern ≤ to_bits binary64 whole) × (to_bits binary64 whole ≤ pattern + 1)
    last_digits =
        let a = mul-le-mul_right (den z) low in
        let b = mul-le-mul_right (den z) high in
        let f = round_mono binary64 below 4 (num z * 1 + 1 * 2 ^ 52 * den z) (den z * 1) (omega arith) (omega (arith, den_pos z)) (omega (arith, lies.low)) in
        let g = round_mono binary64 (num z * 1 + 1 * 2 ^ 52 * den z) (den z * 1) above 4 (omega (arith, den_pos z)) (omega arith) (omega (arith, lies.high)) in
        held (round binary64 false below 4) (round binary64 false above 4) whole (add-fits binary64 z (fin false 1 (pos 52))) first next
        (subst (λ (y : Float). T (le (round binary64 false below 4) y)) rounds f)
        (subst (λ (y : Float). T (le y (round binary64 false above 4))) rounds g)
