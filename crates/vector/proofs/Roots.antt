-- What the proofs of `sqrt` and of its steps cite.
use Rattle.std.proofs.Common.{◌≡◌, ℕ, zero, suc, ◌+◌, ◌-◌, ◌*◌, ◌/◌, ◌%◌, ◌^◌, ◌<◌, ◌≤◌, Bool, true, false, not, T, ltb, ◌⊎◌, sym, refl, ap, ◌∙◌, subst, inl, inr, ⊎_elim, le_trans, le_of_eq, lt_of_lt_of_le, lt_of_le_of_lt, le_of_lt, lt_irrefl, mul-le-mul_right, mod-lt, mul_assoc, mul-le-mul, lt_of_mul-lt-mul_right, eq-or-lt_of_le, mul-le-mul_left, mul-lt-mul_of_pos_right, mul-pos, lt_of_not-le, mul-one, not-le_of_lt, arith, lit<, lit≤, ltb→lt, nltb→le, pow_pos, pow_mono, pow-add, shl_exact}
use native.Mathlib.Nat.{mul-mul-mul_comm, div-add-mod}
use lib.Count.{count_leading_zeros, leading_top}
use Rattle.vector.specs.InnerSteps.{Digits, Normal, NearestUnits}
use Rattle.vector.specs.Units.{at}

pub lt-or_ge : (a b : ℕ) → (a < b) ⊎ (b ≤ a)
lt-or_ge a b = go (ltb a b) (ltb→lt a b) (nltb→le a b)
  where
    go : (t : Bool) → (T t → a < b) → (T (not t) → b ≤ a) → (a < b) ⊎ (b ≤ a)
    go true f g = inl (f tt)
    go false f g = inr (g tt)

-- ---- half of the digits, then the other half by a division

pub sq_lt : (a b : ℕ) → a < b → a * a < b * b
sq_lt a b h = lt_of_le_of_lt (mul-le-mul_left a (le_of_lt h)) (mul-lt-mul_of_pos_right h (omega arith))

-- what has a square below another's is below it
pub root_lt : (a b : ℕ) → a * a < b * b → a < b
root_lt a b h = ⊎_elim (λ g. g) (λ g. absurd (not-le_of_lt h (mul-le-mul g g))) (lt-or_ge a b)

-- how large the halves and what is left can be: s the first half, q and u what a division by 2 * s gives
abbrev pub Sizes : ℕ → ℕ → ℕ → ℕ → Type 0
Sizes n s q u = (2 ^ 26 ≤ s) × (s < 2 ^ 27) × (n - s * s ≤ 2 * s) × (u < 2 * s) × (q ≤ 2 ^ 27) × (q * q ≤ 2 ^ 54)

-- s is the whole part of the root of n
module _ (n s : ℕ) (least : 2 ^ 52 ≤ n) (most : n < 2 ^ 54) (r : Digits n s) where
  half-most : s < 2 ^ 27
  half-most = root_lt s (2 ^ 27) (lt_of_le_of_lt r.not_above most)

  half-least : 2 ^ 26 ≤ s
  half-least = let l = root_lt (2 ^ 26) (s + 1) (lt_of_le_of_lt least r.next_above) in omega arith

  left-most : n - s * s ≤ 2 * s
  left-most = omega (arith, r.next_above)

  -- the root of a number of 108 digits has 54
  few : {k : ℕ} → Digits (n * 2 ^ 54) k → (k < 2 ^ 54) × Digits (n * 2 ^ 54) k
  few {k} d = (root_lt k (2 ^ 54) (lt_of_le_of_lt d.not_above (omega arith)), d)

  -- what is left, with 27 digits more, is q times 2 * s and u
  module _ (q u : ℕ) (parts : 2 * s * q + u ≡ (n - s * s) * 2 ^ 27) (below : u < 2 * s) where
    q-most : q ≤ 2 ^ 27
    q-most = ⊎_elim (λ g. omega arith) (λ g. absurd (too_large g)) (lt-or_ge q (2 ^ 27 + 1))
      where
        too_large : 2 ^ 27 + 1 ≤ q → ⊥
        too_large g = let l = mul-le-mul_left (2 * s) g in omega (arith, left-most, half-least)

    whole : n * 2 ^ 54 ≡ s * s * 2 ^ 54 + (2 * s * q + u) * 2 ^ 27
    whole = omega (arith, r.not_above, parts)

    as-it-is : q * q ≤ u * 2 ^ 27 → Digits (n * 2 ^ 54) (s * 2 ^ 27 + q)
    as-it-is l = record { not_above = omega (arith, whole); next_above = omega (arith, whole) }

    one_less : u * 2 ^ 27 < q * q → Digits (n * 2 ^ 54) (s * 2 ^ 27 + q - 1)
    one_less l = go q refl
      where
        go : (k : ℕ) → q ≡ k → Digits (n * 2 ^ 54) (s * 2 ^ 27 + q - 1)
        go zero e = absurd (omega (arith, ap (λ (x : ℕ). x * x) e))
        go (suc p) e =
            let f : s * 2 ^ 27 + q - 1 ≡ s * 2 ^ 27 + p = omega arith in
            let m : p ≤ 2 ^ 27 = omega (arith, q-most) in
            let w : s * q ≡ s * p + s = ap (λ (x : ℕ). s * x) e ∙ omega arith in
            rw f
            record {
              not_above = omega (arith, whole, w, mul-le-mul m m, half-least);
              next_above = omega (arith, whole, w, ap (λ (x : ℕ). x * x) e);
            }

  -- the same of the two numbers that a division gives
  abbrev pub quotient : ℕ
  quotient = (n - s * s) * 2 ^ 27 / (2 * s)

  abbrev pub remainder : ℕ
  remainder = (n - s * s) * 2 ^ 27 % (2 * s)

  shares : 2 * s * quotient + remainder ≡ (n - s * s) * 2 ^ 27
  shares = div-add-mod ((n - s * s) * 2 ^ 27) (2 * s)

  small : remainder < 2 * s
  small = mod-lt ((n - s * s) * 2 ^ 27) (omega (arith, half-least))

  pub sizes : Sizes n s quotient remainder
  sizes = let m = q-most quotient remainder shares small in (half-least, half-most, left-most, small, m, mul-le-mul m m)

  pub by_less : remainder * 2 ^ 27 < quotient * quotient → (s * 2 ^ 27 + quotient - 1 < 2 ^ 54) × Digits (n * 2 ^ 54) (s * 2 ^ 27 + quotient - 1)
  by_less l = few (one_less quotient remainder shares small l)

  pub by_quotient : quotient * quotient ≤ remainder * 2 ^ 27 → (s * 2 ^ 27 + quotient < 2 ^ 54) × Digits (n * 2 ^ 54) (s * 2 ^ 27 + quotient)
  by_quotient l = few (as-it-is quotient remainder shares small l)

-- ---- the digits and the exponent
pub at_low : (b : ℕ) → b / 2 ^ 52 ≤ 0 → at b ≡ b % 2 ^ 52
unfolding at
at_low b h = let z : b / 2 ^ 52 ≡ 0 = omega arith in rw z

pub at_high : (b x : ℕ) → b / 2 ^ 52 ≡ suc x → at b ≡ (2 ^ 52 + b % 2 ^ 52) * 2 ^ x
unfolding at
at_high b x h = rw h

-- powers by their exponents, so that no large power is written out
pub shift_to : (a x i y : ℕ) → x + i ≡ y → a * 2 ^ x * 2 ^ i ≡ a * 2 ^ y
shift_to a x i y h = mul_assoc a (2 ^ x) (2 ^ i) ∙ ap (λ (z : ℕ). a * z) (sym (pow-add 2 x i) ∙ ap (λ (z : ℕ). 2 ^ z) h)

pub normal : (b : ℕ) → b < 2047 * 2 ^ 52 → 0 < b / 2 ^ 52 → Normal (at b) (b % 2 ^ 52 + 2 ^ 52) (b / 2 ^ 52 + 1023)
normal b h f = record { least = omega arith; most = omega arith; low = omega arith; high = omega arith; same = go (b / 2 ^ 52) refl f }
  where
    go : (k : ℕ) → b / 2 ^ 52 ≡ k → 0 < b / 2 ^ 52 → at b * 2 ^ 1024 ≡ (b % 2 ^ 52 + 2 ^ 52) * 2 ^ (b / 2 ^ 52 + 1023)
    go zero p f = absurd (omega arith)
    go (suc x) p f =
        let s : b % 2 ^ 52 + 2 ^ 52 ≡ 2 ^ 52 + b % 2 ^ 52 = omega arith in
        rw (at_high b x p, p, s) (shift_to (2 ^ 52 + b % 2 ^ 52) x 1024 (suc x + 1023) (omega arith))

-- a number without a leading digit, moved up by the zeros before it
module _ (b : ℕ) (some : 0 < b) (low : b / 2 ^ 52 ≤ 0) where
  abbrev digits_of : ℕ
  digits_of = b % 2 ^ 52

  abbrev zeros_of : ℕ
  zeros_of = count_leading_zeros 64 digits_of

  pub top : (j : ℕ) × (zeros_of + suc j ≡ 64) × (2 ^ j ≤ digits_of) × (digits_of < 2 ^ suc j)
  top = leading_top 64 digits_of (omega arith) (omega arith)

  -- their first digit is at place 51 at most
  pub few_digits : top.0 < 52
  few_digits = lt_of_not-le (λ (g : 52 ≤ top.0). lt_irrefl (2 ^ 52) (lt_of_le_of_lt (le_trans (pow_mono g) top.2) (omega arith)))

  moved : digits_of * 2 ^ (zeros_of - 11) % 2 ^ 64 ≡ digits_of * 2 ^ (zeros_of - 11)
  moved = shl_exact {a = digits_of} (suc top.0) (zeros_of - 11) 64 top.3 (omega (arith, top.1, few_digits))

  pub raised : Normal (at b) (digits_of * 2 ^ (zeros_of - 11) % 2 ^ 64) (1024 - (zeros_of - 11))
  raised =
      let z = zeros_of - 11 in
      let j = top.0 in
      let e : 52 ≡ j + z = omega (arith, top.1, few_digits) in
      let f : suc j + z ≡ 53 = omega (arith, top.1, few_digits) in
      let least : 2 ^ 52 ≡ 2 ^ j * 2 ^ z = ap (λ (x : ℕ). 2 ^ x) e ∙ pow-add 2 j z in
      let most : 2 ^ suc j * 2 ^ z ≡ 2 ^ 53 = sym (pow-add 2 (suc j) z) ∙ ap (λ (x : ℕ). 2 ^ x) f in
      rw moved
      record {
        least = le_trans (le_of_eq least) (mul-le-mul_right (2 ^ z) top.2);
        most = lt_of_lt_of_le (mul-lt-mul_of_pos_right top.3 (pow_pos z)) (le_of_eq most);
        low = omega (arith, top.1);
        high = omega arith;
        same = rw (at_low b low) (sym (shift_to digits_of z (1024 - z) 1024 (omega (arith, top.1, few_digits))));
      }

-- ---- the numbers of at most 53 digits with zeros behind, about one that has a leading digit
pub dn : (m j c k : ℕ) → m < 2 ^ 53 → 2 ^ 52 ≤ c → m * 2 ^ j < (c + 1) * 2 ^ k → m * 2 ^ j ≤ c * 2 ^ k
dn m j c k h l t = ⊎_elim far near (lt-or_ge j k)
  where
    -- j < k: below 2 ^ 53 * 2 ^ (k - 1)
    far : j < k → m * 2 ^ j ≤ c * 2 ^ k
    far g =
        let p : 2 ^ 53 * 2 ^ (k - 1) ≡ 2 ^ 52 * 2 ^ k = shift_to 1 53 (k - 1) (52 + k) (omega arith) ∙ sym (shift_to 1 52 k (52 + k) refl) in
        le_trans (mul-le-mul (le_of_lt h) (pow_mono {i = j} {j = k - 1} (omega arith))) (le_trans (le_of_eq p) (mul-le-mul_right (2 ^ k) l))

    near : k ≤ j → m * 2 ^ j ≤ c * 2 ^ k
    near g =
        let e : m * 2 ^ j ≡ m * 2 ^ (j - k) * 2 ^ k = sym (shift_to m (j - k) k j (omega arith)) in
        let u : m * 2 ^ (j - k) < c + 1 = lt_of_mul-lt-mul_right (2 ^ k) (subst (λ (z : ℕ). z < (c + 1) * 2 ^ k) e t) in
        le_trans (le_of_eq e) (mul-le-mul_right (2 ^ k) (omega arith))

pub up : (m j c k : ℕ) → m < 2 ^ 53 → 2 ^ 52 ≤ c → c * 2 ^ k < m * 2 ^ j → (c + 1) * 2 ^ k ≤ m * 2 ^ j
up m j c k h l t = ⊎_elim (λ g. absurd (not-le_of_lt t (dn m j c k h l g))) (λ g. g) (lt-or_ge (m * 2 ^ j) ((c + 1) * 2 ^ k))

-- ---- the rounded root

odd_square : (a b : ℕ) → (2 * a + 1) * (2 * a + 1) ≡ 2 * b → ⊥
odd_square a b h = omega arith

-- D is even, s the whole part of its root, and c its half, rounded up. K is 2 ^ k.
module _ (D s c k : ℕ) (r : Digits D s) (even : D ≡ 2 * (D / 2)) (big : 2 ^ 53 ≤ s) (half : c ≡ (s + 1) / 2) where
  reaches : (m j : ℕ) → m < 2 ^ 53 → c * 2 ^ k < m * 2 ^ j → (s + 1) * 2 ^ k ≤ c * 2 ^ k + m * 2 ^ j
  reaches m j h t = ⊎_elim (λ o. by_odd (omega arith)) (λ e. by_even (omega arith)) (eq-or-lt_of_le {n = s % 2} {m = 1} (omega arith))
    where
      by_odd : s + 1 ≡ c + c → (s + 1) * 2 ^ k ≤ c * 2 ^ k + m * 2 ^ j
      by_odd o = omega (arith, ap (λ (x : ℕ). x * 2 ^ k) o)

      by_even : s + 1 ≡ c + (c + 1) → (s + 1) * 2 ^ k ≤ c * 2 ^ k + m * 2 ^ j
      by_even o = omega (arith, ap (λ (x : ℕ). x * 2 ^ k) o, up m j c k h (omega arith) t)

  not_square : s % 2 ≡ 1 → s * s < D
  not_square o =
      let h : s ≡ 2 * (s / 2) + 1 = omega arith in
      ⊎_elim (λ e. absurd (odd_square (s / 2) (D / 2) (ap (λ (x : ℕ). x * x) (sym h) ∙ e ∙ even))) (λ l. l) (eq-or-lt_of_le r.not_above)

  root_above : (m j : ℕ) → m < 2 ^ 53 → c * 2 ^ k < m * 2 ^ j → D * (2 ^ k * 2 ^ k) < (c * 2 ^ k + m * 2 ^ j) * (c * 2 ^ k + m * 2 ^ j)
  root_above m j h t =
      let g = reaches m j h t in
      lt_of_lt_of_le (mul-lt-mul_of_pos_right r.next_above (mul-pos (pow_pos k) (pow_pos k)))
      (le_trans (le_of_eq (mul-mul-mul_comm (s + 1) (s + 1) (2 ^ k) (2 ^ k))) (mul-le-mul g g))

  root_below : (m j : ℕ) → m < 2 ^ 53 → m * 2 ^ j < c * 2 ^ k → (m * 2 ^ j + c * 2 ^ k) * (m * 2 ^ j + c * 2 ^ k) < D * (2 ^ k * 2 ^ k)
  root_below m j h t = ⊎_elim (λ o. by_odd o (omega arith)) (λ e. by_even (omega arith)) (eq-or-lt_of_le {n = s % 2} {m = 1} (omega arith))
    where
      square : s * 2 ^ k * (s * 2 ^ k) ≡ s * s * (2 ^ k * 2 ^ k)
      square = mul-mul-mul_comm s (2 ^ k) s (2 ^ k)

      by_odd : s % 2 ≡ 1 → s + 1 ≡ c + c → (m * 2 ^ j + c * 2 ^ k) * (m * 2 ^ j + c * 2 ^ k) < D * (2 ^ k * 2 ^ k)
      by_odd o e =
          let d : c - 1 + 1 ≡ c = omega arith in
          let u : m * 2 ^ j ≤ (c - 1) * 2 ^ k = dn m j (c - 1) k h (omega arith) (rw d t) in
          let f : s ≡ c - 1 + c = omega arith in
          let v : m * 2 ^ j + c * 2 ^ k ≤ s * 2 ^ k = omega (arith, ap (λ (x : ℕ). x * 2 ^ k) f) in
          lt_of_le_of_lt (le_trans (mul-le-mul v v) (le_of_eq square)) (mul-lt-mul_of_pos_right (not_square o) (mul-pos (pow_pos k) (pow_pos k)))

      by_even : s ≡ c + c → (m * 2 ^ j + c * 2 ^ k) * (m * 2 ^ j + c * 2 ^ k) < D * (2 ^ k * 2 ^ k)
      by_even e =
          let v : m * 2 ^ j + c * 2 ^ k < s * 2 ^ k = omega (arith, ap (λ (x : ℕ). x * 2 ^ k) e) in
          lt_of_lt_of_le (sq_lt (m * 2 ^ j + c * 2 ^ k) (s * 2 ^ k) v) (le_trans (le_of_eq square) (mul-le-mul_right (2 ^ k * 2 ^ k) r.not_above))

-- the pattern of c * 2 ^ k units, where c has 53 digits or is 2 ^ 53
at_join : (k c : ℕ) → 2 ^ 52 ≤ c → c ≤ 2 ^ 53 → at (k * 2 ^ 52 + c) ≡ c * 2 ^ k
at_join k c l h = ⊎_elim full less (eq-or-lt_of_le h)
  where
    less : c < 2 ^ 53 → at (k * 2 ^ 52 + c) ≡ c * 2 ^ k
    less t =
        let p : 2 ^ 52 + (k * 2 ^ 52 + c) % 2 ^ 52 ≡ c = omega arith in
        at_high (k * 2 ^ 52 + c) k (omega arith) ∙ ap (λ (x : ℕ). x * 2 ^ k) p

    full : c ≡ 2 ^ 53 → at (k * 2 ^ 52 + c) ≡ c * 2 ^ k
    full e =
        let p : 2 ^ 52 + (k * 2 ^ 52 + c) % 2 ^ 52 ≡ 2 ^ 52 = omega arith in
        at_high (k * 2 ^ 52 + c) (suc k) (omega arith) ∙ ap (λ (x : ℕ). x * 2 ^ suc k) p
        ∙ shift_to 1 52 (suc k) (53 + k) (omega arith) ∙ sym (shift_to 1 53 k (53 + k) refl) ∙ ap (λ (x : ℕ). x * 2 ^ k) (sym e)

-- what `root_bits` ensures: r is a pattern below infinity's, nearest to the root of N units
abbrev pub RootAt : ℕ → ℕ → Type 0
RootAt N r = (r < 2047 * 2 ^ 52) × NearestUnits N (at r)

-- n has 53 or 54 digits, and the number's value is n * 2 ^ (2 * h), in the scale of `split`
module _ (N n h s : ℕ) (least : 2 ^ 52 ≤ n) (most : n < 2 ^ 54) (few : s < 2 ^ 54) (r : Digits (n * 2 ^ 54) s) (low : 486 ≤ h) (high : h ≤ 1534) (same : N * 2 ^ 1024 ≡ n * 2 ^ (2 * h)) where
  big : 2 ^ 53 ≤ s
  big = ⊎_elim (λ g. absurd (too-low (omega arith))) (λ g. g) (lt-or_ge s (2 ^ 53))
    where
      too-low : s + 1 ≤ 2 ^ 53 → ⊥
      too-low g = not-le_of_lt r.next_above (le_trans (mul-le-mul g g) (mul-le-mul_right (2 ^ 54) least))

  value : N * 2 ^ 1076 ≡ n * 2 ^ 54 * (2 ^ (h - 1) * 2 ^ (h - 1))
  value =
      sym (shift_to N 1024 52 1076 refl)
      ∙ ap (λ (x : ℕ). x * 2 ^ 52) same
      ∙ shift_to n (2 * h) 52 (54 + (h - 1) + (h - 1)) (omega arith)
      ∙ sym (shift_to n (54 + (h - 1)) (h - 1) (54 + (h - 1) + (h - 1)) refl)
      ∙ ap (λ (x : ℕ). x * 2 ^ (h - 1)) (sym (shift_to n 54 (h - 1) (54 + (h - 1)) refl))
      ∙ mul_assoc (n * 2 ^ 54) (2 ^ (h - 1)) (2 ^ (h - 1))

  pub joined : RootAt N ((h - 1) * 2 ^ 52 + (s + 1) / 2)
  joined =
      let c = (s + 1) / 2 in
      let b = big in
      let y = at_join (h - 1) c (omega arith) (omega arith) in
      let e : n * 2 ^ 54 ≡ 2 * (n * 2 ^ 54 / 2) = omega arith in (
        omega arith,
        record {
          above = λ m j g t. rw (value, y) (root_above (n * 2 ^ 54) s c (h - 1) r e b refl m j g (rw y at t));
          below = λ m j g t. rw (value, y) (root_below (n * 2 ^ 54) s c (h - 1) r e b refl m j g (rw y at t));
        },
      )

  -- a number larger by so many of the last of n's digits has a larger root: between the two lies a number of at most 53 digits
  pub gap : (j : ℕ) → 4 * s + 4 ≤ j * 2 ^ 54 → s + 1 < 2 ^ 54 → (K y : ℕ) → (n + j) * 2 ^ (2 * h) ≤ K * 2 ^ 1024 → NearestUnits K y → at ((h - 1) * 2 ^ 52 + (s + 1) / 2) < y
  gap j wide short K y far q = lt_of_not-le (λ (l : y ≤ at ((h - 1) * 2 ^ 52 + (s + 1) / 2)). clash (rw (at_join (h - 1) ((s + 1) / 2) (omega (arith, big)) (omega arith)) at l))
    where
      k : ℕ
      k = h - 1

      c : ℕ
      c = (s + 1) / 2

      -- the next number of at most 53 digits
      next : (m : ℕ) × (x : ℕ) × (m < 2 ^ 53) × (m * 2 ^ x ≡ (c + 1) * 2 ^ k)
      next =
          ⊎_elim (λ (g : c + 1 < 2 ^ 53). (c + 1, k, g, refl))
          (λ (g : 2 ^ 53 ≤ c + 1).
          let e : 2 ^ 52 * 2 ≡ c + 1 = omega arith in
          (2 ^ 52, 1 + k, lit< tt, sym (shift_to (2 ^ 52) 1 k (1 + k) refl) ∙ ap (λ (x : ℕ). x * 2 ^ k) e)) (lt-or_ge (c + 1) (2 ^ 53))

      spread : (n + j) * 2 ^ (2 * h) * 2 ^ 52 ≡ (n + j) * 2 ^ 54 * (2 ^ k * 2 ^ k)
      spread =
          shift_to (n + j) (2 * h) 52 (54 + k + k) (omega arith)
          ∙ sym (shift_to (n + j) (54 + k) k (54 + k + k) refl)
          ∙ ap (λ (x : ℕ). x * 2 ^ k) (sym (shift_to (n + j) 54 k (54 + k) refl))
          ∙ mul_assoc ((n + j) * 2 ^ 54) (2 ^ k) (2 ^ k)

      square : (s + 2) * (s + 2) ≤ (n + j) * 2 ^ 54
      square = omega (arith, r.not_above, wide)

      clash : y ≤ c * 2 ^ k → ⊥
      clash l =
          let within : c + (c + 1) ≤ s + 2 = omega arith in
          let less : c < c + 1 = omega arith in
          let t : y < next.0 * 2 ^ next.1 = lt_of_le_of_lt l (lt_of_lt_of_le (mul-lt-mul_of_pos_right less (pow_pos k)) (le_of_eq (sym next.3))) in
          let v : y + next.0 * 2 ^ next.1 ≤ (s + 2) * 2 ^ k = sum y (next.0 * 2 ^ next.1) (2 ^ k) l next.3 within in
          not-le_of_lt (q.above next.0 next.1 next.2 t)
          (le_trans (mul-le-mul v v)
          (le_trans (le_of_eq (mul-mul-mul_comm (s + 2) (2 ^ k) (s + 2) (2 ^ k)))
          (le_trans (mul-le-mul_right (2 ^ k * 2 ^ k) square)
          (le_trans (le_of_eq (sym spread))
          (le_trans (mul-le-mul_right (2 ^ 52) far) (le_of_eq (shift_to K 1024 52 1076 refl)))))))
        where
          sum : (a b p : ℕ) → a ≤ c * p → b ≡ (c + 1) * p → c + (c + 1) ≤ s + 2 → a + b ≤ (s + 2) * p
          sum a b p f g w = le_trans (omega (arith, f, g)) (mul-le-mul_right p w)

-- the two ways of `root_bits`: an even exponent, and an odd one, which takes one digit more
pub by_even : (N d e s : ℕ) → Normal N d e → e % 2 ≡ 0 → s < 2 ^ 54 → Digits (d * 2 ^ 54) s
    → RootAt N ((e / 2 - 1) * 2 ^ 52 + (s + 1) / 2)
by_even N d e s n p f r =
    let q : e ≡ 2 * (e / 2) = omega arith in
    joined N d (e / 2) s n.least (omega (arith, n.most)) f r (omega (arith, n.low)) (omega (arith, n.high)) (n.same ∙ ap (λ (x : ℕ). d * 2 ^ x) q)

pub by_odd : (N d e s : ℕ) → Normal N d e → (e % 2 ≡ 0 → ⊥) → s < 2 ^ 54 → Digits (d * 2 * 2 ^ 54) s
    → RootAt N ((e / 2 - 1) * 2 ^ 52 + (s + 1) / 2)
by_odd N d e s n p f r =
    let q : 1 + 2 * (e / 2) ≡ e = omega arith in
    joined N (d * 2) (e / 2) s (omega (arith, n.least)) (omega (arith, n.most)) f r (omega (arith, n.low)) (omega (arith, n.high))
    (n.same ∙ sym (shift_to d 1 (2 * (e / 2)) e q))

pub by_parity : (N d e s : ℕ) → Normal N d e → s < 2 ^ 54 → Digits (d * (1 + e % 2) * 2 ^ 54) s
    → RootAt N ((e / 2 - 1) * 2 ^ 52 + (s + 1) / 2)
by_parity N d e s n f r = ⊎_elim odd even (lt-or_ge 0 (e % 2))
  where
    odd : 0 < e % 2 → RootAt N ((e / 2 - 1) * 2 ^ 52 + (s + 1) / 2)
    odd p = let o : 1 + e % 2 ≡ 2 = omega arith in by_odd N d e s n (λ z. omega arith) f (rw o at r)

    even : e % 2 ≤ 0 → RootAt N ((e / 2 - 1) * 2 ^ 52 + (s + 1) / 2)
    even p =
        let z : e % 2 ≡ 0 = omega arith in
        let o : d * (1 + e % 2) ≡ d = rw z (mul-one d) in
        by_even N d e s n z f (rw o at r)

pub twice : (d e : ℕ) → 2 ^ 52 ≤ d → d < 2 ^ 53 → (2 ^ 52 ≤ d * (1 + e % 2)) × (d * (1 + e % 2) < 2 ^ 54)
twice d e l h =
    let o : 1 + e % 2 ≤ 2 = omega arith in
    let p : 1 ≤ 1 + e % 2 = omega arith in
    let i = mul-le-mul_left d p in
    (omega arith, lt_of_le_of_lt (mul-le-mul_left d o) (omega arith))

-- ---- next to 1.0

-- D is less than the square of s + 1, by so little that it is no less than that of s
short_of_lem : (D s k : ℕ) → D + k * k ≡ (s + 1) * (s + 1) → 0 < k → k * k ≤ 2 * s + 1 → Digits D s
short_of_lem D s k e p h = record { not_above = omega arith; next_above = omega (arith, mul-pos p p) }

-- from 1.0 to 2.0 and from 0.5 to 1.0, by the digits of the root
from_one : (c s : ℕ) → 2 ^ 52 ≤ c → c ≤ 2 ^ 53 → s < 2 ^ 54 → Digits (c * 2 ^ 54) s → RootAt (at (1022 * 2 ^ 52 + c)) (1022 * 2 ^ 52 + (s + 1) / 2)
from_one c s l h f r =
    joined (at (1022 * 2 ^ 52 + c)) c 1023 s l (lt_of_le_of_lt h (lit< tt)) f r (lit≤ tt) (lit≤ tt)
    (ap (λ (x : ℕ). x * 2 ^ 1024) (at_join 1022 c l h) ∙ shift_to c 1022 1024 2046 refl)

to_one : (c s : ℕ) → 2 ^ 52 ≤ c → c < 2 ^ 53 → s < 2 ^ 54 → Digits (c * 2 * 2 ^ 54) s → RootAt (at (1021 * 2 ^ 52 + c)) (1021 * 2 ^ 52 + (s + 1) / 2)
to_one c s l h f r =
    joined (at (1021 * 2 ^ 52 + c)) (c * 2) 1022 s (omega (arith, l)) (omega (arith, h)) f r (lit≤ tt) (lit≤ tt)
    (ap (λ (x : ℕ). x * 2 ^ 1024) (at_join 1021 c l (le_of_lt h)) ∙ shift_to c 1021 1024 2045 refl ∙ sym (shift_to c 1 2044 2045 refl))

-- k patterns above 1.0, and below it: the square of what is half as far is larger by the square of k
above-one : (k : ℕ) → k < 2 ^ 26 → RootAt (at (1022 * 2 ^ 52 + (2 ^ 52 + k))) (1022 * 2 ^ 52 + (2 ^ 53 + k) / 2)
above-one zero l = from_one (2 ^ 52) (2 ^ 53) (lit≤ tt) (lit≤ tt) (lit< tt) (record { not_above = lit≤ tt; next_above = lit< tt })
above-one (suc j) l =
    let m = mul-le-mul (le_of_lt l) (le_of_lt l) in
    let e : 2 ^ 53 + suc j ≡ 2 ^ 53 + j + 1 = omega arith in
    rw e
    (from_one (2 ^ 52 + suc j) (2 ^ 53 + j) (omega arith) (omega arith) (omega arith)
    (short_of_lem ((2 ^ 52 + suc j) * 2 ^ 54) (2 ^ 53 + j) (suc j) (omega arith) (omega arith) (omega (arith, m))))

below_one : (k c : ℕ) → 0 < k → k ≤ 2 ^ 26 → c + k ≡ 2 ^ 53 → RootAt (at (1021 * 2 ^ 52 + c)) (1021 * 2 ^ 52 + (c + (2 ^ 53 - 1) + 1) / 2)
below_one k c p l e =
    to_one c (c + (2 ^ 53 - 1)) (omega arith) (omega arith) (omega arith)
    (short_of_lem (c * 2 * 2 ^ 54) (c + (2 ^ 53 - 1)) k (omega (arith, ap (λ (x : ℕ). x * c) e, ap (λ (x : ℕ). x * k) e)) p (omega (arith, mul-le-mul l l)))

-- next to 1.0 the root is half as far from it, rounded down
pub near-one : (b : ℕ) → 1023 * 2 ^ 52 ≤ b + 2 ^ 26 → b < 1023 * 2 ^ 52 + 2 ^ 26 → RootAt (at b) ((b + 1023 * 2 ^ 52) / 2)
near-one b l h = ⊎_elim below above (lt-or_ge b (1023 * 2 ^ 52))
  where
    same : {a r : ℕ} → a ≡ b → r ≡ (b + 1023 * 2 ^ 52) / 2 → RootAt (at a) r → RootAt (at b) ((b + 1023 * 2 ^ 52) / 2)
    same {r = r} e q x = subst (λ (y : ℕ). RootAt (at b) y) q (subst (λ (y : ℕ). RootAt (at y) r) e x)

    above : 1023 * 2 ^ 52 ≤ b → RootAt (at b) ((b + 1023 * 2 ^ 52) / 2)
    above g = same (omega arith) (omega arith) (above-one (b - 1023 * 2 ^ 52) (omega arith))

    below : b < 1023 * 2 ^ 52 → RootAt (at b) ((b + 1023 * 2 ^ 52) / 2)
    below g = same (omega arith) (omega arith) (below_one (1023 * 2 ^ 52 - b) (b - 1021 * 2 ^ 52) (omega arith) (omega arith) (omega arith))
