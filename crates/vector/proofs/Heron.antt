-- Heron's steps towards the root of n, from a line near it, in whole numbers of 2^-8: h is half of n, rounded up, w where a step begins.
use Rattle.std.proofs.Common.{◌≡◌, ℕ, ◌+◌, ◌-◌, ◌*◌, ◌/◌, ◌^◌, ◌<◌, ◌≤◌, ◌⊎◌, ap, inl, inr, ⊎_elim, mul-le-mul_right, mul-le-mul, mul-le-mul_left, div-mul-le_self, le_of_mul-le-mul_right, arith}
use Rattle.vector.specs.InnerSteps.{Digits, Close}
use Rattle.vector.proofs.Floors.{quot_high}
use Rattle.vector.proofs.Roots.{lt-or_ge, root_lt}

-- two numbers whose sum is not above twice a third have a product not above its square
product_below : (t u s : ℕ) → t + u ≤ 2 * s → t * u ≤ s * s
product_below t u s h = ⊎_elim (λ g. small t u (omega arith) (omega arith)) (λ g. large (omega arith)) (lt-or_ge t s)
  where
    -- s is t and d, so u is at most t and twice d
    small : (t u : ℕ) → t ≤ s → t + u ≤ 2 * s → t * u ≤ s * s
    small t u g h =
        let d = s - t in
        let e : s ≡ t + d = omega arith in
        let m : t * u ≤ t * (t + 2 * d) = mul-le-mul_left t (omega arith) in
        let q : s * s ≡ (t + d) * (t + d) = ap (λ (x : ℕ). x * x) e in
        omega arith

    large : u ≤ s → t * u ≤ s * s
    large g = let m = small u t g (omega arith) in omega arith

-- the square of a sum: four times the product, and the square of how far the two lie apart
apart : (p w d : ℕ) → (w ≡ p + d) ⊎ (p ≡ w + d) → (p + w) * (p + w) ≡ 4 * (p * w) + d * d
apart p w d h = ⊎_elim (λ e. rw e (omega arith)) (λ e. rw e (omega arith)) h

-- ---- w is rough: its square is that of the root, but for one part in sixty
pub record Rough (n w : ℕ) : Type 0 where
  pub least : 2 ^ 34 ≤ w
  pub most : w ≤ 2 ^ 35 + 2 ^ 30
  pub under : 59 * (2 ^ 16 * n) ≤ 60 * (w * w)
  pub over : 60 * (w * w) ≤ 61 * (2 ^ 16 * n)

-- w is near: not below the root by more than 2, and its square above by 3 parts in 2^15 at most
pub record Near (n w : ℕ) : Type 0 where
  pub least : 2 ^ 33 ≤ w
  pub most : w < 2 ^ 36
  pub under : 2 ^ 16 * n < (w + 2) * (w + 2)
  pub over : 2 ^ 15 * (w * w) ≤ (2 ^ 15 + 3) * (2 ^ 16 * n)

-- ---- the two lines. A line lies above the root the most at an end of its range: b says how far, in 2^24 parts of it, h is from the first
first-over : (n b w : ℕ) → b ≤ 2 ^ 24 → 2 ^ 52 + 2 ^ 28 * b ≤ n + 1 → w ≤ 424 * b + (129 * 2 ^ 27 + 425) → 60 * (w * w) ≤ 61 * (2 ^ 16 * n)
first-over n b w h g k =
    let s = mul-le-mul k k in
    let m = mul-le-mul_left b h in
    omega arith

first_under : (n h w : ℕ) → n ≤ 2 * h → 53 * h + (76 * 2 ^ 51 - 2 ^ 24) ≤ 2 ^ 24 * w → 59 * (2 ^ 16 * n) ≤ 60 * (w * w)
first_under n h w g k = let s = product_below (2 * (53 * h)) (2 * (76 * 2 ^ 51 - 2 ^ 24)) (2 ^ 24 * w) (omega arith) in omega arith

second_over : (n b w : ℕ) → b ≤ 2 ^ 24 → 2 ^ 53 + 2 ^ 29 * b ≤ n + 1 → w ≤ 600 * b + (365 * 2 ^ 26 + 601) → 60 * (w * w) ≤ 61 * (2 ^ 16 * n)
second_over n b w h g k =
    let s = mul-le-mul k k in
    let m = mul-le-mul_left b h in
    omega arith

second_under : (n h w : ℕ) → n ≤ 2 * h → 75 * h + (215 * 2 ^ 51 - 2 ^ 25) ≤ 2 ^ 25 * w → 59 * (2 ^ 16 * n) ≤ 60 * (w * w)
second_under n h w g k = let s = product_below (2 * (75 * h)) (2 * (215 * 2 ^ 51 - 2 ^ 25)) (2 ^ 25 * w) (omega arith) in omega arith

module _ (n h : ℕ) (least : n ≤ 2 * h) (most : 2 * h ≤ n + 1) where
  pub first-line : (w : ℕ) → 2 ^ 51 ≤ h → h ≤ 2 ^ 52 → 2 ^ 8 * (h * 53) / 2 ^ 32 + 2 ^ 8 * (19 * 2 ^ 21) ≤ w → w ≤ 2 ^ 8 * (h * 53) / 2 ^ 32 + 1 + 2 ^ 8 * (19 * 2 ^ 21) → Rough n w
  first-line w p q l u =
      record {
        least = omega arith;
        most = omega arith;
        under = first_under n h w least (omega arith);
        over = first-over n ((h - 2 ^ 51) / 2 ^ 27) w (omega arith) (omega arith) (omega arith);
      }

  pub second_line : (w : ℕ) → 2 ^ 52 ≤ h → h ≤ 2 ^ 53 → 2 ^ 8 * (h * 75) / 2 ^ 33 + 2 ^ 8 * (215 * 2 ^ 18) ≤ w → w ≤ 2 ^ 8 * (h * 75) / 2 ^ 33 + 1 + 2 ^ 8 * (215 * 2 ^ 18) → Rough n w
  second_line w p q l u =
      record {
        least = omega arith;
        most = omega arith;
        under = second_under n h w least (omega arith);
        over = second_over n ((h - 2 ^ 52) / 2 ^ 28) w (omega arith) (omega arith) (omega arith);
      }

  -- ---- a step, rounded down, is at most 1 below the whole part s of the root, counted in 2^-8
  pub hardly_below : (w s : ℕ) → s * s ≤ 2 ^ 16 * n → s ≤ 2 ^ 16 * h / (w + 1) + w / 2 + 1
  hardly_below w s k = ⊎_elim (λ g. absurd (below g)) (λ g. g) (lt-or_ge (2 ^ 16 * h / (w + 1) + w / 2 + 1) s)
    where
      below : 2 ^ 16 * h / (w + 1) + w / 2 + 1 < s → ⊥
      below g =
          let q = 2 ^ 16 * h / (w + 1) in
          let m = product_below (w + 1) (2 * (q + 1)) s (omega arith) in
          let t = quot_high (2 ^ 16 * h) (w + 1) (omega arith) in
          omega arith

  -- ---- a step is above the root by little: w and the quotient lie d apart
  module _ (w : ℕ) (some : 2 ^ 33 ≤ w) where
    abbrev quotient : ℕ
    quotient = 2 ^ 16 * h / w

    not_more : quotient * w ≤ 2 ^ 16 * h
    not_more = div-mul-le_self (2 ^ 16 * h) w

    not-less : 2 ^ 16 * h < quotient * w + w
    not-less = quot_high (2 ^ 16 * h) w (omega arith)

    -- how far they lie apart, whichever is larger
    distance : (d : ℕ) × ((w ≡ 2 * quotient + d) ⊎ (2 * quotient ≡ w + d))
    distance = ⊎_elim (λ g. (w - 2 * quotient, inl (omega arith))) (λ g. (2 * quotient - w, inr (omega arith))) (lt-or_ge (2 * quotient) w)

    -- the square of their sum, twice the step
    sum-square : (d : ℕ) → (w ≡ 2 * quotient + d) ⊎ (2 * quotient ≡ w + d) → (2 * quotient + w) * (2 * quotient + w) ≤ 2 ^ 18 * n + 2 ^ 18 + d * d
    sum-square d e = omega (arith, apart (2 * quotient) w d e, not_more)

    rough-distance : (d : ℕ) → Rough n w → (w ≡ 2 * quotient + d) ⊎ (2 * quotient ≡ w + d) → 59 * d ≤ w + 122
    rough-distance d r (inl e) =
        let m : w * w ≡ (2 * quotient + d) * w = ap (λ (x : ℕ). x * w) e in
        let k : 61 * d * w ≤ (w + 122) * w = omega (arith, not-less, r.over) in
        omega (arith, le_of_mul-le-mul_right {m = 61 * d} {n = w + 122} k (omega arith))
    rough-distance d r (inr e) =
        let m : 2 * quotient * w ≡ (w + d) * w = ap (λ (x : ℕ). x * w) e in
        let k : 59 * d * w ≤ (w + 1) * w = omega (arith, not_more, r.under) in
        omega (arith, le_of_mul-le-mul_right {m = 59 * d} {n = w + 1} k (omega arith))

    near-distance : (d : ℕ) → Near n w → (w ≡ 2 * quotient + d) ⊎ (2 * quotient ≡ w + d) → (2 ^ 15 + 3) * d ≤ 3 * w + 2 ^ 18
    near-distance d r (inl e) =
        let m : w * w ≡ (2 * quotient + d) * w = ap (λ (x : ℕ). x * w) e in
        let k : (2 ^ 15 + 3) * d * w ≤ (3 * w + (2 ^ 16 + 6)) * w = omega (arith, not-less, r.over) in
        omega (arith, le_of_mul-le-mul_right {m = (2 ^ 15 + 3) * d} {n = 3 * w + (2 ^ 16 + 6)} k (omega arith))
    near-distance d r (inr e) =
        let m : 2 * quotient * w ≡ (w + d) * w = ap (λ (x : ℕ). x * w) e in
        let k : d * w ≤ 5 * w = omega (arith, not_more, r.under) in
        omega (arith, le_of_mul-le-mul_right {m = d} {n = 5} k (omega arith))

    not-past : (d : ℕ) → (w ≡ 2 * quotient + d) ⊎ (2 * quotient ≡ w + d) → 2 * quotient ≤ w + d
    not-past d e = ⊎_elim (λ f. omega arith) (λ f. omega arith) e

    -- the first step
    pub nearer : (v : ℕ) → 2 ^ 52 ≤ n → Rough n w → 2 ^ 16 * h / (w + 1) + w / 2 ≤ v → v ≤ quotient + w / 2 + 2 → Near n v
    nearer v low r l u =
        record {
          least = omega (arith, r.least);
          most = omega (arith, far, past, r.most);
          under = ⊎_elim (λ g. g) (λ g. absurd (above g)) (lt-or_ge (2 ^ 16 * n) ((v + 2) * (v + 2)));
          over = over;
        }
      where
        d : ℕ
        d = distance.0

        far : 59 * d ≤ w + 122
        far = rough-distance d r distance.1

        past : 2 * quotient ≤ w + d
        past = not-past d distance.1

        above : (v + 2) * (v + 2) ≤ 2 ^ 16 * n → ⊥
        above g = omega (arith, hardly_below w (v + 2) g)

        over : 2 ^ 15 * (v * v) ≤ (2 ^ 15 + 3) * (2 ^ 16 * n)
        over =
            let k : 2 * v ≤ 2 * quotient + w + 4 = omega arith in
            let p = mul-le-mul k k in
            let q = mul-le-mul far far in
            omega (arith, far, past, sum-square d distance.1, r.most, r.over)

    -- the second step, by the whole part s of the root
    pub nearest : (s : ℕ) → 2 ^ 26 ≤ s → s < 2 ^ 27 → Digits n s → Near n w → quotient + w / 2 + 2 ≤ (4 * s + 5) * 2 ^ 6
    nearest s a b g r = ⊎_elim (λ l. absurd (far l)) (λ l. l) (lt-or_ge ((4 * s + 5) * 2 ^ 6) (quotient + w / 2 + 2))
      where
        d : ℕ
        d = distance.0

        small : w < 257 * (s + 1)
        small = root_lt w (257 * (s + 1)) (omega (arith, r.over, g.next_above))

        few : 42 * d ≤ s + 1
        few = omega (arith, near-distance d r distance.1, small)

        far : (4 * s + 5) * 2 ^ 6 < quotient + w / 2 + 2 → ⊥
        far l =
            let y : 512 * (s + 1) + 126 ≤ 2 * quotient + w = omega arith in
            let p = mul-le-mul y y in
            let q = mul-le-mul few few in
            let t : (s + 1) * (s + 1) ≤ 2 ^ 27 * (s + 1) = mul-le-mul_right (s + 1) (omega arith) in
            omega (arith, sum-square d distance.1, g.next_above)

-- ---- one comparison settles it
pub settled_above : {n r : ℕ} → Close n r → n < r * r → Digits n (r - 1)
settled_above {n} {r} c h =
    let e : r - 1 + 1 ≡ r = omega (arith, c.some) in
    let q : (r - 1 + 1) * (r - 1 + 1) ≡ r * r = ap (λ (x : ℕ). x * x) e in
    record { not_above = c.near; next_above = omega arith }

pub settled : {n r : ℕ} → Close n r → r * r ≤ n → Digits n r
settled c h = record { not_above = h; next_above = c.next_above }
