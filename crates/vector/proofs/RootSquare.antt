-- The root of a square, worked out in f64, is the number that was squared, where the square neither overflows nor loses digits.
use Rattle.std.proofs.Common.{◌≡◌, ℕ, zero, suc, ◌+◌, ◌-◌, ◌*◌, ◌/◌, ◌%◌, ◌^◌, ◌<◌, ◌≤◌, true, false, not, T, eqb, sym, refl, ap, ◌∙◌, subst, ⊎_elim, le_trans, le_of_eq, lt_of_lt_of_le, lt_of_le_of_lt, le_of_lt, mul-le-mul_right, mod-lt, zero-lt-suc, mul_assoc, mul-le-mul, eq-or-lt_of_le, mul-le-mul_left, mul-lt-mul_of_pos_right, mul-pos, lt_of_not-le, div-add-mod', mul-one, not-le_of_lt, mul-div_cancel, arith, lit≤, eqb→eq, lt→ltb, leb→le, pow_pos, pow_mono, pow-add}
use Prim.Native.Nat.{compare, Ordering}
use native.Mathlib.Nat.{mul-mul-mul_comm}
use lib.Dec.{is_le, compare_is_eq, nleb→lt, eqb_refl}
use lib.Arith.{lt_of_le-ne}
use lib.Ieee.{Float, nan, inf, fin, nearest, size, binary64, fits, of_bits, to_bits, mul, round}
use lib.Ieee.Bits.{of_bits-to_bits}
use lib.Ieee.Exact.{HasValue}
use lib.Ieee.Positive.{positive, mul_at, positive_of_value}
use lib.Ieee.Nearest.{closest, closest_same}
use lib.Ieee.Digits.{size-lt, size-le, size_reaches}
use lib.Ieee.Scale.{grid, round_val}
use Rattle.vector.proofs.Roots.{lt-or_ge, shift_to, up, dn, sq_lt, at_high}
use Rattle.vector.proofs.Patterns.{Above, above, of_bits_lem, units_val}
use Rattle.vector.proofs.RootSearch.{root_is}
use Rattle.vector.proofs.RootLaws.{rooted}
use Rattle.vector.specs.Root.{root_bits, root_of}
use Rattle.vector.specs.InnerSteps.{NearestUnits}
use Rattle.vector.specs.Units.{at}

-- ---- to the nearest whole number: off by a half at most
abbrev Cmp : Ordering → ℕ → ℕ → Type 0
Cmp Ordering.lt a b = a < b
Cmp Ordering.eq a b = a ≡ b
Cmp Ordering.gt a b = b < a

cmp : (a b : ℕ) → Cmp (compare a b) a b
cmp a b = go (compare a b) (leb→le a b) (nleb→lt a b) (eqb→eq a b) (λ (e : a ≡ b). subst (λ (x : ℕ). T (eqb a x)) e (eqb_refl a))
  where
    go : (o : Ordering) → (T (is_le o) → a ≤ b) → (T (not (is_le o)) → b < a) → (T (compare_is_eq o) → a ≡ b) → (a ≡ b → T (compare_is_eq o)) → Cmp o a b
    go Ordering.lt h k e n = lt_of_le-ne (h tt) n
    go Ordering.eq h k e n = e tt
    go Ordering.gt h k e n = k tt

-- twice the number times b lies within b of twice a
abbrev Off : ℕ → ℕ → ℕ → Type 0
Off q a b = (q * b * 2 ≤ a * 2 + b) × (a * 2 ≤ q * b * 2 + b)

off : (o : Ordering) (w r a b : ℕ) → w * b + r ≡ a → r < b → Cmp o (r * 2) b → Off (nearest w o) a b
off Ordering.lt w r a b e l h = (omega arith, omega arith)
off Ordering.eq w r a b e l h = ⊎_elim (λ p. up (omega arith)) (λ p. down (omega arith)) (lt-or_ge 0 (w % 2))
  where
    up : w + w % 2 ≡ w + 1 → Off (w + w % 2) a b
    up z = rw z (omega arith, omega arith)

    down : w + w % 2 ≡ w → Off (w + w % 2) a b
    down z = rw z (omega arith, omega arith)
off Ordering.gt w r a b e l h = (omega arith, omega arith)

closest_off : (a b : ℕ) → 0 < b → Off (closest a b) a b
closest_off a b B = off (compare (a % b * 2) b) (a / b) (a % b) a b (div-add-mod' a b) (mod-lt a B) (cmp (a % b * 2) b)

-- ---- to 53 digits: off by one part in 2 ^ 53 at most
abbrev pub kept53 : ℕ → ℕ
kept53 e = closest e (2 ^ (size e - 53)) * 2 ^ (size e - 53)

long : (e : ℕ) → 2 ^ 52 ≤ e → 53 ≤ size e
long e h = lt_of_not-le (λ (g : size e ≤ 52). not-le_of_lt (lt_of_lt_of_le (size-lt e) (pow_mono g)) h)

near : (e : ℕ) → 2 ^ 52 ≤ e → (kept53 e * 2 ^ 53 ≤ e * 2 ^ 53 + e) × (e * 2 ^ 53 ≤ kept53 e * 2 ^ 53 + e)
near e h =
    let l = long e h in
    let d = size e - 53 in
    let p : 2 ^ 52 * 2 ^ d ≤ e = le_trans (le_of_eq (sym (pow-add 2 52 d))) (size_reaches e (52 + d) (omega arith)) in
    let o = closest_off e (2 ^ d) (pow_pos d) in
    (high e (closest e (2 ^ d) * 2 ^ d) (2 ^ d) p o.0, low e (closest e (2 ^ d) * 2 ^ d) (2 ^ d) p o.1)
  where
    high : (e g u : ℕ) → 2 ^ 52 * u ≤ e → g * 2 ≤ e * 2 + u → g * 2 ^ 53 ≤ e * 2 ^ 53 + e
    high e g u p o = omega arith

    low : (e g u : ℕ) → 2 ^ 52 * u ≤ e → e * 2 ≤ g * 2 + u → e * 2 ^ 53 ≤ g * 2 ^ 53 + e
    low e g u p o = omega arith

-- a power of two is kept
power : (j : ℕ) → 2 ^ (104 + j) ≤ kept53 (2 ^ (104 + j))
power j =
    let e = 2 ^ (104 + j) in
    let a : 104 + j < size e = lt_of_not-le (λ (g : size e ≤ 104 + j). not-le_of_lt (size-lt e) (pow_mono g)) in
    let b : size e ≤ 105 + j = size-le e (105 + j) (lt_of_lt_of_le (pow-grows (104 + j)) (pow_mono {i = suc (104 + j)} {j = 105 + j} (omega arith))) in
    let d = size e - 53 in
    let s : 2 ^ 52 * 2 ^ d ≡ e = sym (pow-add 2 52 d) ∙ ap (λ (x : ℕ). 2 ^ x) (omega arith) in
    let o = closest_off e (2 ^ d) (pow_pos d) in
    le_trans (le_of_eq (sym s)) (mul-le-mul_right (2 ^ d) (lt-or (closest e (2 ^ d)) (2 ^ d) e s (pow_pos d) o.1))
  where
    pow-grows : (n : ℕ) → 2 ^ n < 2 ^ suc n
    pow-grows n = omega (arith, pow_pos n)

    lt-or : (q u e : ℕ) → 2 ^ 52 * u ≡ e → 0 < u → e * 2 ≤ q * u * 2 + u → 2 ^ 52 ≤ q
    lt-or q u e s p o = ⊎_elim (λ g. absurd (clash g)) (λ g. g) (lt-or_ge q (2 ^ 52))
      where
        clash : q < 2 ^ 52 → ⊥
        clash g =
            let f : q + 1 ≤ 2 ^ 52 = omega arith in
            let h : (q + 1) * u ≤ 2 ^ 52 * u = mul-le-mul_right u f in
            omega arith

-- ---- the square of a number of 53 digits
module _ (c k j : ℕ) (least : 2 ^ 52 ≤ c) (most : c < 2 ^ 53) (half : k + k ≡ j + 1074) where
  pub square : c * 2 ^ k * (c * 2 ^ k) ≡ c * c * 2 ^ j * 2 ^ 1074
  square =
      mul-mul-mul_comm c (2 ^ k) c (2 ^ k)
      ∙ ap (λ (x : ℕ). c * c * x) (sym (pow-add 2 k k) ∙ ap (λ (x : ℕ). 2 ^ x) half)
      ∙ sym (shift_to (c * c) j 1074 (j + 1074) refl)

  big : 2 ^ 52 ≤ c * c * 2 ^ j
  big = le_trans (le_trans least (le_trans (le_of_eq (sym (mul-one c))) (mul-le-mul_left c (le_trans (lit≤ tt) least)))) (le_trans (le_of_eq (sym (mul-one (c * c)))) (mul-le-mul_left (c * c) (pow_pos j)))

  abbrev kept : ℕ
  kept = kept53 (c * c * 2 ^ j)

  -- below the square of the midpoint with the number above
  under : kept * 4 < (c * 2 + 1) * (c * 2 + 1) * 2 ^ j
  under = sum kept (2 ^ j) (near (c * c * 2 ^ j) big).0 (mul-lt-mul_of_pos_right fits (pow_pos j))
    where
      fits : c * c * 4 < (c * 4 + 1) * 2 ^ 53
      fits = omega (arith, mul-le-mul_left c (le_of_lt most))

      sum : (g u : ℕ) → g * 2 ^ 53 ≤ c * c * u * 2 ^ 53 + c * c * u → c * c * 4 * u < (c * 4 + 1) * 2 ^ 53 * u → g * 4 < (c * 2 + 1) * (c * 2 + 1) * u
      sum g u h f = omega arith

  -- above the square of the midpoint with the number below, where that has as many digits
  over : 2 ^ 52 < c → (c - 1 + c) * (c - 1 + c) * 2 ^ j < kept * 4
  over l = go (c - 1) (omega arith)
    where
      go : (p : ℕ) → c ≡ p + 1 → (p + c) * (p + c) * 2 ^ j < kept * 4
      go p e =
          let f : (p + 1) * (p + 1) ≤ (p + 1) * (2 ^ 53 - 1) = mul-le-mul_left (p + 1) (omega arith) in
          let h : (p + 1) * (p + 1) * 4 < (p * 4 + 3) * 2 ^ 53 = omega arith in
          let n : (p + 1) * (p + 1) * 2 ^ j * 2 ^ 53 ≤ kept * 2 ^ 53 + (p + 1) * (p + 1) * 2 ^ j = subst (λ (x : ℕ). x * x * 2 ^ j * 2 ^ 53 ≤ kept * 2 ^ 53 + x * x * 2 ^ j) e (near (c * c * 2 ^ j) big).1 in
          subst (λ (x : ℕ). (p + x) * (p + x) * 2 ^ j < kept * 4) (sym e) (sum kept (2 ^ j) n (mul-lt-mul_of_pos_right h (pow_pos j)))
        where
          sum : (g u : ℕ) → (p + 1) * (p + 1) * u * 2 ^ 53 ≤ g * 2 ^ 53 + (p + 1) * (p + 1) * u → (p + 1) * (p + 1) * 4 * u < (p * 4 + 3) * 2 ^ 53 * u → (p + (p + 1)) * (p + (p + 1)) * u < g * 4
          sum g u h f = omega arith

  -- in units of 2 ^ -2150
  spread : (a g : ℕ) → g * 4 * 2 ^ 1074 ≡ g * 2 ^ 1076
  spread a g = shift_to g 2 1074 1076 refl

  whole : (a : ℕ) → a * a * 2 ^ j * 2 ^ 1074 ≡ a * 2 ^ k * (a * 2 ^ k)
  whole a =
      shift_to (a * a) j 1074 (j + 1074) refl
      ∙ ap (λ (x : ℕ). a * a * x) (ap (λ (x : ℕ). 2 ^ x) (sym half) ∙ pow-add 2 k k)
      ∙ sym (mul-mul-mul_comm a (2 ^ k) a (2 ^ k))

  is_above : (m i : ℕ) → m < 2 ^ 53 → c * 2 ^ k < m * 2 ^ i → kept * 2 ^ 1076 < (c * 2 ^ k + m * 2 ^ i) * (c * 2 ^ k + m * 2 ^ i)
  is_above m i h t =
      let v : (c * 2 + 1) * 2 ^ k ≤ c * 2 ^ k + m * 2 ^ i = sum (2 ^ k) (m * 2 ^ i) (up m i c k h least t) in
      lt_of_le_of_lt (le_of_eq (sym (spread c kept)))
      (lt_of_lt_of_le (mul-lt-mul_of_pos_right under (pow_pos 1074)) (le_trans (le_of_eq (whole (c * 2 + 1))) (mul-le-mul v v)))
    where
      sum : (u x : ℕ) → (c + 1) * u ≤ x → (c * 2 + 1) * u ≤ c * u + x
      sum u x g = omega arith

  is_below : (m i : ℕ) → m < 2 ^ 53 → m * 2 ^ i < c * 2 ^ k → (m * 2 ^ i + c * 2 ^ k) * (m * 2 ^ i + c * 2 ^ k) < kept * 2 ^ 1076
  is_below m i h t = ⊎_elim even odd (eq-or-lt_of_le least)
    where
      odd : 2 ^ 52 < c → (m * 2 ^ i + c * 2 ^ k) * (m * 2 ^ i + c * 2 ^ k) < kept * 2 ^ 1076
      odd l =
          let d : c - 1 + 1 ≡ c = omega arith in
          let u : m * 2 ^ i ≤ (c - 1) * 2 ^ k = dn m i (c - 1) k h (omega arith) (rw d t) in
          let v : m * 2 ^ i + c * 2 ^ k ≤ (c - 1 + c) * 2 ^ k = sum (2 ^ k) (m * 2 ^ i) (c - 1) u in
          lt_of_le_of_lt (le_trans (mul-le-mul v v) (le_of_eq (sym (whole (c - 1 + c)))))
          (lt_of_lt_of_le (mul-lt-mul_of_pos_right (over l) (pow_pos 1074)) (le_of_eq (spread c kept)))
        where
          sum : (u x p : ℕ) → x ≤ p * u → x + c * u ≤ (p + c) * u
          sum u x p g = omega arith

      even : 2 ^ 52 ≡ c → (m * 2 ^ i + c * 2 ^ k) * (m * 2 ^ i + c * 2 ^ k) < kept * 2 ^ 1076
      even e = lt_of_lt_of_le (sq_lt (m * 2 ^ i + c * 2 ^ k) (c * 2 * 2 ^ k) (sum (m * 2 ^ i) (2 ^ k) t)) (le_trans (le_of_eq (sym (whole (c * 2)))) (le_trans (mul-le-mul_right (2 ^ 1074) four) (le_of_eq (spread c kept))))
        where
          sum : (x u : ℕ) → x < c * u → x + c * u < c * 2 * u
          sum x u g = omega arith

          exact : c * c * 2 ^ j ≡ 2 ^ (104 + j)
          exact = subst (λ (x : ℕ). x * x * 2 ^ j ≡ 2 ^ (104 + j)) e (sym (pow-add 2 104 j))

          sums : (u g : ℕ) → c * c * u ≤ g → c * 2 * (c * 2) * u ≤ g * 4
          sums u g h = omega arith

          four : c * 2 * (c * 2) * 2 ^ j ≤ kept * 4
          four = sums (2 ^ j) kept (subst (λ (x : ℕ). x ≤ kept53 x) (sym exact) (power j))

  pub square-nearest : NearestUnits (kept53 (c * c * 2 ^ j)) (c * 2 ^ k)
  square-nearest = record { above = is_above; below = is_below }

  kept-pos : 0 < kept
  kept-pos = some (c * c * 2 ^ j) kept big (near (c * c * 2 ^ j) big).1
    where
      some : (e g : ℕ) → 2 ^ 52 ≤ e → e * 2 ^ 53 ≤ g * 2 ^ 53 + e → 0 < g
      some e g h n = omega arith

  kept-lt : j ≤ 1900 → kept < 2 ^ 2098
  kept-lt h = lt_of_le_of_lt (twice (c * c * 2 ^ j) kept (near (c * c * 2 ^ j) big).0) (lt_of_lt_of_le few (le_trans (le_of_eq (sym (pow-add 2 107 j))) (pow_mono {i = 107 + j} {j = 2098} (omega arith))))
    where
      twice : (e g : ℕ) → g * 2 ^ 53 ≤ e * 2 ^ 53 + e → g ≤ e * 2
      twice e g n = omega arith

      sum : (u : ℕ) → c * c * u < 2 ^ 106 * u → c * c * u * 2 < 2 ^ 107 * u
      sum u g = omega arith

      few : c * c * 2 ^ j * 2 < 2 ^ 107 * 2 ^ j
      few = sum (2 ^ j) (mul-lt-mul_of_pos_right {m = c * c} {n = 2 ^ 106} (omega (arith, mul-le-mul_left c (le_of_lt most))) (pow_pos j))

-- ---- in f64

-- what the product is rounded to
grid_is : (e a c : ℕ) → 0 < c → a * 2 ^ 1074 ≡ e * c → grid binary64 a c ≡ kept53 e
grid_is e a c pos n-is =
    let n = a * 2 ^ 1074 in
    let d = size e - 53 in
    let q : n / c ≡ e = ap (λ (z : ℕ). z / c) n-is ∙ mul-div_cancel e pos in
    let digits : size (n / c) - 53 ≡ d = ap (λ (z : ℕ). size z - 53) q in
    ap (λ (z : ℕ). closest n (c * 2 ^ z) * 2 ^ z) digits
    ∙ ap (λ (z : ℕ). z * 2 ^ d) (closest_same n (c * 2 ^ d) e (2 ^ d) (mul-pos pos (pow_pos d)) (pow_pos d) (ap (λ (z : ℕ). z * 2 ^ d) n-is ∙ mul_assoc e c (2 ^ d)))

rooted_is : (x : Float) (g : ℕ) → T (positive x) → HasValue x false g (2 ^ 1074) → rooted x ≡ of_bits binary64 (root_bits g)
unfolding root_of
rooted_is nan g p h = absurd p
rooted_is (inf s) g p h = absurd p
rooted_is (fin true m e) g p h = absurd p
rooted_is (fin false zero e) g p h = absurd p
rooted_is (fin false (suc m) e) g p h = ap (λ (n : ℕ). of_bits binary64 (root_bits n)) (units_val (fin false (suc m) e) g h)

is_positive : (t : Float) → Above t → T (positive t)
is_positive t (above m e) = lt→ltb 0 (suc m) (zero-lt-suc m)

-- for numbers from 2 ^ -485 to 2 ^ 176
pub root_of_square : (t : Float) → T (fits binary64 t) → Above t → 538 * 2 ^ 52 ≤ to_bits binary64 t → to_bits binary64 t < 1200 * 2 ^ 52 → rooted (mul binary64 t t) ≡ t
root_of_square t f a low high = by (to_bits binary64 t) refl low high
  where
    by : (b : ℕ) → to_bits binary64 t ≡ b → 538 * 2 ^ 52 ≤ b → b < 1200 * 2 ^ 52 → rooted (mul binary64 t t) ≡ t
    by b is low high =
        let c = 2 ^ 52 + b % 2 ^ 52 in
        let k = b / 2 ^ 52 - 1 in
        let j = k + k - 1074 in
        let l : 2 ^ 52 ≤ c = omega arith in
        let h : c < 2 ^ 53 = omega arith in
        let s : k + k ≡ j + 1074 = omega arith in
        let back : of_bits binary64 b ≡ t = ap (of_bits binary64) (sym is) ∙ of_bits-to_bits binary64 t f in
        let units : at b ≡ c * 2 ^ k = at_high b k (omega arith) in
        let v : HasValue t false (c * 2 ^ k) (2 ^ 1074) = subst (λ (n : ℕ). HasValue t false n (2 ^ 1074)) units (subst (λ (z : Float). HasValue z false (at b) (2 ^ 1074)) back (of_bits_lem b (omega arith))) in
        let p : 0 < 2 ^ 1074 = pow_pos 1074 in
        let e = c * c * 2 ^ j in
        let g = kept53 e in
        let product : mul binary64 t t ≡ round binary64 false (c * 2 ^ k * (c * 2 ^ k)) (2 ^ 1074 * 2 ^ 1074) = mul_at binary64 t t (c * 2 ^ k) (2 ^ 1074) (c * 2 ^ k) (2 ^ 1074) (is_positive t a) (is_positive t a) p p v v in
        let is-g = grid_is e (c * 2 ^ k * (c * 2 ^ k)) (2 ^ 1074 * 2 ^ 1074) (mul-pos p p) (ap (λ (z : ℕ). z * 2 ^ 1074) (square c k j l h s) ∙ mul_assoc e (2 ^ 1074) (2 ^ 1074)) in
        let small : g < 2 ^ 2098 = kept-lt c k j l h s (omega arith) in
        let some : 0 < g = kept-pos c k j l h s in
        let w : HasValue (mul binary64 t t) false g (2 ^ 1074) =
        subst (λ (z : Float). HasValue z false g (2 ^ 1074)) (sym product)
        (subst (λ (n : ℕ). HasValue (round binary64 false (c * 2 ^ k * (c * 2 ^ k)) (2 ^ 1074 * 2 ^ 1074)) false n (2 ^ 1074)) is-g
        (round_val binary64 (c * 2 ^ k * (c * 2 ^ k)) (2 ^ 1074 * 2 ^ 1074) (subst (λ (n : ℕ). n < 2 ^ 2098) (sym is-g) small))) in
        rooted_is (mul binary64 t t) g (positive_of_value (mul binary64 t t) g (2 ^ 1074) w some) w
        ∙ ap (of_bits binary64) (sym (root_is g some small b (subst (λ (n : ℕ). NearestUnits g n) (sym units) (square-nearest c k j l h s))))
        ∙ back
