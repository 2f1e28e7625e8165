-- Where a number lies, counted in whole numbers of 2^-8, and what rounding leaves of that in a quotient, a half and a sum.
use Rattle.std.proofs.Common.{◌≡◌, ℕ, zero, suc, ◌+◌, ◌*◌, ◌/◌, ◌^◌, ◌<◌, ◌≤◌, true, false, T, pos, sym, refl, ap, ◌∙◌, subst, le_trans, le_of_eq, lt_of_lt_of_le, mul-le-mul_right, mul_assoc, mul_comm, div-lt_iff_lt-mul, mul-le-mul_left, mul-pos, le-div_iff_mul-le, mul-one, div-mul-le_self, le_of_mul-le-mul_right, mul_left_comm, arith, lit≤, pow_pos, pow_mono, pow-add, shl_lt}
use lib.Ieee.{Float, nan, inf, fin, binary64, of_bits, round, sum, add, mul, div, le}
use lib.Ieee.Exact.{HasValue, round_exact}
use lib.Ieee.Order.{round_mono}
use lib.Ieee.Scale.{round_same}
use lib.Ieee.Positive.{num, den, positive, den_pos, own_value, value→cross, value_pos, positive_of_value, values_of_le, between, mul_at}
use Rattle.vector.specs.InnerSteps.{heron_of}
use Rattle.vector.proofs.Floors.{quot_high}
use Rattle.vector.proofs.Shares.{quotient}

-- x is finite and above zero, l of 2^-8 at least and u of 2^-8 at most
pub record Between (l u : ℕ) (x : Float) : Type 0 where
  pub some : T (positive x)
  pub low : l * den x ≤ 2 ^ 8 * num x
  pub high : 2 ^ 8 * num x ≤ u * den x

-- what lies between two numbers by the order of f64 lies between their fractions
pub amid : (a c b : ℕ) (x z y : Float) → HasValue x false a b → HasValue y false c b → 0 < a → 0 < c → T (le x z) → T (le z y) → T (positive z) × (a * den z ≤ num z * b) × (num z * b ≤ c * den z)
amid a c b x z y v w A C f g =
    let p = positive_of_value x a b v A in
    let q = positive_of_value y c b w C in
    let o = between x z y p q f g in
    (o, values_of_le x z a b (num z) (den z) p o v (own_value z o) f, values_of_le z y (num z) (den z) c b o q (own_value z o) w g)

-- ---- rounding keeps a fraction between two such numbers, since both are f64
exact : (l : ℕ) → l < 2 ^ 53 → HasValue (round binary64 false l (2 ^ 8)) false l (2 ^ 8)
exact l h =
    round_exact binary64 false l (2 ^ 8) l 1066 (pow_pos 8) h
    (lt_of_lt_of_le (shl_lt 53 1066 h) (pow_mono {i = 1119} {j = 2098} (lit≤ tt)))
    (ap (λ (x : ℕ). l * x) (pow-add 2 1066 8) ∙ sym (mul_assoc l (2 ^ 1066) (2 ^ 8)))

pub rounded : (a b l u : ℕ) → 0 < b → 0 < l → u < 2 ^ 53 → l * b ≤ 2 ^ 8 * a → 2 ^ 8 * a ≤ u * b → Between l u (round binary64 false a b)
rounded a b l u B L U h k =
    let m : l ≤ u = le_of_mul-le-mul_right (le_trans h k) B in
    let f = round_mono binary64 l (2 ^ 8) a b (pow_pos 8) B (le_trans h (le_of_eq (mul_comm (2 ^ 8) a))) in
    let g = round_mono binary64 a b u (2 ^ 8) B (pow_pos 8) (le_trans (le_of_eq (mul_comm a (2 ^ 8))) k) in
    let z = round binary64 false a b in
    let o = amid l u (2 ^ 8) (round binary64 false l (2 ^ 8)) z (round binary64 false u (2 ^ 8)) (exact l (omega arith)) (exact u U) L (omega arith) f g in
    record { some = o.0; low = le_trans o.1 (le_of_eq (mul_comm (num z) (2 ^ 8))); high = le_trans (le_of_eq (mul_comm (2 ^ 8) (num z))) o.2 }

-- the whole number of 2^-8 that a number has
pub own : {l u : ℕ} {x : Float} → Between l u x → (w : ℕ) × (l ≤ w) × (w ≤ u) × Between w (w + 1) x
own {l} {u} {x} b =
    let w = 2 ^ 8 * num x / den x in
    let m = quot_high (2 ^ 8 * num x) (den x) (den_pos x) in
    let g : w < u + 1 = (div-lt_iff_lt-mul {x = 2 ^ 8 * num x} {y = u + 1} (den_pos x)).1 (omega (arith, den_pos x, b.high)) in
    (w, (le-div_iff_mul-le (den_pos x)).1 b.low, omega arith, record { some = b.some; low = div-mul-le_self (2 ^ 8 * num x) (den x); high = omega arith })

-- ---- a quotient, a half and a sum
div_is : (x y : Float) → T (positive x) → T (positive y) → div binary64 x y ≡ round binary64 false (num x * den y) (num y * den x)
unfolding div
div_is nan y p q = absurd p
div_is (inf s) y p q = absurd p
div_is (fin true m e) y p q = absurd p
div_is (fin false m e) nan p q = absurd q
div_is (fin false m e) (inf t) p q = absurd q
div_is (fin false m e) (fin true n d) p q = absurd q
div_is (fin false m e) (fin false zero d) p q = absurd q
div_is (fin false m e) (fin false (suc n) d) p q = quotient m n e d

pub add_is : (x y : Float) → T (positive x) → T (positive y) → add binary64 x y ≡ round binary64 false (num x * den y + num y * den x) (den x * den y)
unfolding add sum
add_is nan y p q = absurd p
add_is (inf s) y p q = absurd p
add_is (fin true m e) y p q = absurd p
add_is (fin false m e) nan p q = absurd q
add_is (fin false m e) (inf t) p q = absurd q
add_is (fin false m e) (fin true n d) p q = absurd q
add_is (fin false m e) (fin false n d) p q = refl

num_pos : (x : Float) → T (positive x) → 0 < num x
num_pos x p = value_pos x (num x) (den x) p (den_pos x) (own_value x p)

pub added : {l u j k : ℕ} (x y : Float) → Between l u x → Between j k y → 0 < l → u + k < 2 ^ 53 → Between (l + j) (u + k) (add binary64 x y)
added {l} {u} {j} {k} x y b c L U =
    let o = mul-le-mul_right (den y) b.low in
    let p = mul-le-mul_right (den x) c.low in
    let q = mul-le-mul_right (den y) b.high in
    let r = mul-le-mul_right (den x) c.high in
    rw (add_is x y b.some c.some)
    (rounded (num x * den y + num y * den x) (den x * den y) (l + j) (u + k) (mul-pos (den_pos x) (den_pos y)) (omega arith) U (omega arith) (omega arith))

-- h divided by a number that has w of 2^-8
module _ (x r : Float) (h w : ℕ) (value : HasValue x false h 1) (some : 0 < h) (lies : Between w (w + 1) r) where
  shares : div binary64 x r ≡ round binary64 false (h * den r) (num r)
  shares =
      let p = num_pos r lies.some in
      div_is x r (positive_of_value x h 1 value some) lies.some
      ∙ round_same binary64 false (num x * den r) (num r * den x) (h * den r) (num r) (mul-pos p (den_pos x)) p
      (ap (λ (z : ℕ). z * den r * num r) (sym (mul-one (num x)) ∙ value→cross x h 1 value) ∙ simp (mul_assoc, mul_comm, mul_left_comm))

  shared : w + 1 ≤ 2 ^ 16 * h → 2 ^ 16 * h < 2 ^ 52 * w → Between (2 ^ 16 * h / (w + 1)) (2 ^ 16 * h / w + 1) (div binary64 x r)
  shared least most =
      let W : 0 < w = omega arith in
      let q = 2 ^ 16 * h / (w + 1) in
      let p = 2 ^ 16 * h / w + 1 in
      let Q : 0 < q = (le-div_iff_mul-le {k = w + 1} {x = 1} {y = 2 ^ 16 * h} (omega arith)).1 (omega arith) in
      let P : 2 ^ 16 * h / w < 2 ^ 52 = (div-lt_iff_lt-mul {k = w} {x = 2 ^ 16 * h} {y = 2 ^ 52} W).1 most in
      let a = mul-le-mul_left q lies.high in
      let b = mul-le-mul_right (den r) (div-mul-le_self (2 ^ 16 * h) (w + 1)) in
      let c = mul-le-mul_left p lies.low in
      let m = quot_high (2 ^ 16 * h) w W in
      let d : 2 ^ 16 * h * den r ≤ p * w * den r = mul-le-mul_right (den r) (omega arith) in
      rw shares (rounded (h * den r) (num r) q p (num_pos r lies.some) Q (omega arith) (omega arith) (omega arith))

  halved : 1 < w → w < 2 ^ 52 → Between (w / 2) (w / 2 + 1) (div binary64 r (fin false 1 (pos 1)))
  halved least most =
      let a : w / 2 * 2 * den r ≤ w * den r = mul-le-mul_right (den r) (omega arith) in
      let b : (w + 1) * den r ≤ (w / 2 + 1) * 2 * den r = mul-le-mul_right (den r) (omega arith) in
      rw (div_is r (fin false 1 (pos 1)) lies.some tt)
      (rounded (num r * 1) (1 * 2 ^ 1 * den r) (w / 2) (w / 2 + 1) (omega (arith, den_pos r)) (omega arith) (omega arith) (omega (arith, lies.low)) (omega (arith, lies.high)))

  pub stepped : w + 1 ≤ 2 ^ 16 * h → 2 ^ 16 * h < 2 ^ 52 * w → 1 < w → w < 2 ^ 52 → Between (2 ^ 16 * h / (w + 1) + w / 2) (2 ^ 16 * h / w + w / 2 + 2) (heron_of x r)
  unfolding of_bits
  stepped a b c d =
      let q = 2 ^ 16 * h / w in
      let s = shared a b in
      let Q : 0 < 2 ^ 16 * h / (w + 1) = (le-div_iff_mul-le {k = w + 1} {x = 1} {y = 2 ^ 16 * h} (omega arith)).1 (omega arith) in
      let P : q < 2 ^ 52 = (div-lt_iff_lt-mul {k = w} {x = 2 ^ 16 * h} {y = 2 ^ 52} (omega arith)).1 b in
      let e : q + 1 + (w / 2 + 1) ≡ q + w / 2 + 2 = omega arith in
      subst (λ (u : ℕ). Between (2 ^ 16 * h / (w + 1) + w / 2) u (heron_of x r)) e (added (div binary64 x r) (div binary64 r (fin false 1 (pos 1))) s (halved c d) Q (omega arith))

-- ---- a line: h times the fraction a / c, and b
pub lined : (x y z : Float) (h a c b : ℕ) → HasValue x false h 1 → HasValue y false a c → HasValue z false b 1 → 0 < h → 0 < a → 0 < b → 0 < c
    → c ≤ 2 ^ 8 * (h * a) → 2 ^ 8 * (h * a) / c + 1 + 2 ^ 8 * b < 2 ^ 53
    → Between (2 ^ 8 * (h * a) / c + 2 ^ 8 * b) (2 ^ 8 * (h * a) / c + 1 + 2 ^ 8 * b) (add binary64 (mul binary64 x y) z)
lined x y z h a c b xv yv zv H A B C least most =
    let l = 2 ^ 8 * (h * a) / c in
    let L : 0 < l = (le-div_iff_mul-le {k = c} {x = 1} {y = 2 ^ 8 * (h * a)} C).1 (omega arith) in
    let m = quot_high (2 ^ 8 * (h * a)) c C in
    let t = div-mul-le_self (2 ^ 8 * (h * a)) c in
    let e = value→cross z b 1 zv in
    added (mul binary64 x y) z
    (rw (mul_at binary64 x y h 1 a c (positive_of_value x h 1 xv H) (positive_of_value y a c yv A) (omega arith) C xv yv)
    (rounded (h * a) (1 * c) l (l + 1) (omega arith) L (omega arith) (omega arith) (omega arith)))
    (record { some = positive_of_value z b 1 zv B; low = omega arith; high = omega arith })
    L most
