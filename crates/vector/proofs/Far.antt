-- A quotient whose dividend is more than twice its divisor in size is below 0 or above 1. Sizes are compared by squares, which have no sign.
use Rattle.std.proofs.Common.{◌≡◌, ℕ, zero, suc, ◌+◌, ◌*◌, ◌^◌, ◌<◌, ◌≤◌, Bool, true, false, cond, not, ◌&&◌, T, eqb, ltb, ℤ, sym, refl, ap, ◌∙◌, subst, ⊎_elim, mul-le-mul_right, zero-lt-suc, mul_assoc, mul-pos, zero-mul, mul_right_comm, arith, ltb→lt, lt→ltb, T_not}
use lib.Dec.{not_T}
use lib.Ieee.{Float, nan, inf, fin, up, down, binary64, fits, of_bits, to_bits, odd, units, round, neg, sum, add, mul, div, lt, le, is_nan, unlike}
use lib.Ieee.Bits.{is_false, of_bits-to_bits}
use lib.Ieee.Exact.{HasValue, round_exact}
use lib.Ieee.Fits.{up_pos, down_pos, round_is}
use lib.Ieee.Order.{round_mono}
use lib.Ieee.Positive.{positive, above, positive_of_value, above_of_le, mul_at, mul_mono}
use Rattle.vector.specs.Lengths.{zero64, one64}
use Rattle.vector.specs.Root.{units_of}
use Rattle.vector.specs.Units.{at}
use Rattle.vector.proofs.Roots.{lt-or_ge}
use Rattle.vector.proofs.Patterns.{of_bits_lem, bits_in, units_bits, units_lt, shape}
use Rattle.vector.proofs.Order.{lt-through}
use Rattle.vector.proofs.Shares.{le_not_lt, digits_apart}

abbrev square : Float → Float
square x = mul binary64 x x

-- a share of a segment, neither below 0 nor above 1
abbrev shared : Float → Bool
shared t = le zero64 t && le t one64

le-no_lt : (x y : Float) → T (le x y) → T (lt y x) → ⊥
le-no_lt x y h = T_not (lt y x) (le_not_lt x y h)

-- ---- the sign of what is rounded
units_turned : (q k : ℕ) → units binary64 true q k ≡ neg (units binary64 false q k)
unfolding units
units_turned q k = go (ltb (q * 2 ^ k) (2 ^ 2098)) q
  where
    go : (t : Bool) (q : ℕ) → cond t (odd 54 true q k 1074) (inf true) ≡ neg (cond t (odd 54 false q k 1074) (inf false))
    go true zero = unfold odd neg in refl
    go true (suc q) = unfold odd neg in refl
    go false q = unfold neg in refl

turned : (a b : ℕ) → round binary64 true a b ≡ neg (round binary64 false a b)
turned a b = round_is binary64 true a b ∙ units_turned _ _ ∙ ap neg (sym (round_is binary64 false a b))

-- a square has none
square-turned : (x : Float) → square (neg x) ≡ square x
unfolding mul neg
square-turned nan = refl
square-turned (inf true) = refl
square-turned (inf false) = refl
square-turned (fin true m e) = refl
square-turned (fin false m e) = refl

-- twice d, squared, by the size of d
twice : (t : Bool) (k : ℕ) (f : ℤ) → square (add binary64 (fin t k f) (fin t k f)) ≡ square (round binary64 false (k * up f * down f + k * up f * down f) (down f * down f))
unfolding add sum
twice false k f = refl
twice true k f = ap square (turned (k * up f * down f + k * up f * down f) (down f * down f)) ∙ square-turned _

-- ---- rounding leaves an f64 as it is
pub own : (m : ℕ) (e : ℤ) → T (fits binary64 (fin false (suc m) e)) → HasValue (round binary64 false (suc m * up e) (down e)) false (suc m * up e) (down e)
unfolding units_of
own m e h =
    let x = fin false (suc m) e in
    let w = shape x h tt in
    let v : HasValue x false (at (to_bits binary64 x)) (2 ^ 1074) = subst (λ (z : Float). HasValue z false (at (to_bits binary64 x)) (2 ^ 1074)) (of_bits-to_bits binary64 x h) (of_bits_lem (to_bits binary64 x) (bits_in m e h).1) in
    round_exact binary64 false (suc m * up e) (down e) w.0 w.1 (down_pos e) w.2 (subst (λ (n : ℕ). n < 2 ^ 2098) w.3 (units_lt m e h))
    (v.1 ∙ ap (λ (n : ℕ). n * down e) (sym (units_bits m e h) ∙ w.3))

-- ---- a square is not below that of a number that is not larger
never_above : (y : Float) → T (lt (inf false) y) → ⊥
unfolding lt
never_above nan h = h
never_above (inf t) h = h
never_above (fin t n d) h = h

least : (m : ℕ) (e : ℤ) (b : ℕ) → 0 < b → T (lt (round binary64 false (m * up e * (m * up e)) (down e * down e)) (round binary64 false 0 b)) → ⊥
least m e b h l =
    le-no_lt (round binary64 false 0 b) (round binary64 false (m * up e * (m * up e)) (down e * down e))
    (round_mono binary64 0 b (m * up e * (m * up e)) (down e * down e) h (mul-pos (down_pos e) (down_pos e)) (omega (arith, zero-mul (down e * down e)))) l

not_below_zero : (y : Float) (b : ℕ) → 0 < b → T (lt (square y) (round binary64 false 0 b)) → ⊥
unfolding mul
not_below_zero nan b h l = unfold lt in absurd l
not_below_zero (inf true) b h l = never_above _ l
not_below_zero (inf false) b h l = never_above _ l
not_below_zero (fin true m e) b h l = least m e b h l
not_below_zero (fin false m e) b h l = least m e b h l

-- x is rounded a / c, and not above y
not_below_square : (x y : Float) (a c : ℕ) → 0 < a → 0 < c → HasValue x false a c → T (le x y) → T (lt (square y) (round binary64 false (a * a) (c * c))) → ⊥
not_below_square x y a c A C v l h = go y l (above_of_le x y p l) h
  where
    p : T (positive x)
    p = positive_of_value x a c v A

    go : (y : Float) → T (le x y) → T (above y) → T (lt (square y) (round binary64 false (a * a) (c * c))) → ⊥
    go nan l g h = absurd g
    go (inf true) l g h = absurd g
    go (inf false) l g h = never_above (round binary64 false (a * a) (c * c)) (unfold mul in h)
    go (fin true n d) l g h = absurd g
    go (fin false n d) l g h =
        le-no_lt (round binary64 false (a * a) (c * c)) (square (fin false n d))
        (subst (λ (z : Float). T (le z (square (fin false n d)))) (mul_at binary64 x x a c a c p p C C v v) (mul_mono binary64 x (fin false n d) x (fin false n d) p g p g l l)) h

-- ---- the dividend is more than twice the divisor
doubled : (x y f d : ℕ) → x * f ≤ 2 * (y * d) → x * (f * f) ≤ (y * f + y * f) * d
doubled x y f d h =
    omega (arith, mul-le-mul_right f h, mul_assoc x f f, mul_right_comm y f d, mul_assoc 2 (y * d) f)

module _ (s t : Bool) (m k : ℕ) (e f : ℤ) where
  abbrev double : Float
  double = round binary64 false (k * up f * down f + k * up f * down f) (down f * down f)

  unsigned : T (lt (square (add binary64 (fin t k f) (fin t k f))) (square (fin s m e))) → T (lt (square double) (square (fin false m e)))
  unsigned l = rw (twice t k f, sign s) at l
    where
      sign : (s : Bool) → square (fin s m e) ≡ square (fin false m e)
      sign true = unfold mul in refl
      sign false = refl

  far_apart : T (fits binary64 (fin false m e)) → T (lt (square (add binary64 (fin t k f) (fin t k f))) (square (fin s m e))) → 2 * (k * up f * down e) < m * up e * down f
  far_apart h l =
      ⊎_elim (λ g. g) (λ g. absurd (near m h (doubled (m * up e) (k * up f) (down f) (down e) g) (unsigned l))) (lt-or_ge (2 * (k * up f * down e)) (m * up e * down f))
    where
      near : (m : ℕ) → T (fits binary64 (fin false m e)) → m * up e * (down f * down f) ≤ (k * up f * down f + k * up f * down f) * down e → T (lt (square double) (square (fin false m e))) → ⊥
      near zero h g l =
          not_below_zero double (down e * down e) (mul-pos (down_pos e) (down_pos e)) (subst (λ (n : ℕ). T (lt (square double) (round binary64 false (n * n) (down e * down e)))) (zero-mul (up e)) (unfold mul in l))
      near (suc m) h g l =
          not_below_square (round binary64 false (suc m * up e) (down e)) double (suc m * up e) (down e) (mul-pos (zero-lt-suc m) (up_pos e)) (down_pos e) (own m e h)
          (round_mono binary64 (suc m * up e) (down e) (k * up f * down f + k * up f * down f) (down f * down f) (down_pos e) (mul-pos (down_pos f) (down_pos f)) g) (unfold mul in l)

-- ---- what is from 2 on, or from -2 down, is no share
abbrev two64 : Float
two64 = of_bits binary64 0x4000_0000_0000_0000

not_le : (x y : Float) → T (lt y x) → le x y ≡ false
not_le x y l = is_false (le x y) (not_T (le x y) (λ h. le-no_lt x y h l))

above-one : (r : Float) → T (le two64 r) → T (lt one64 r)
above-one r h = lt-through one64 two64 r (unfold of_bits lt in tt) (le_not_lt two64 r h) (some r h)
  where
    some : (r : Float) → T (le two64 r) → T (not (is_nan r))
    some nan h = absurd (unfold of_bits le in h)
    some (inf s) h = unfold is_nan in tt
    some (fin s m e) h = unfold is_nan in tt

too_large : (r : Float) → T (lt one64 r) → shared r ≡ false
too_large r h = rw (not_le r one64 h) (either (le zero64 r))
  where
    either : (b : Bool) → (b && false) ≡ false
    either true = refl
    either false = refl

too_small : (r : Float) → T (lt one64 r) → shared (neg r) ≡ false
too_small r h = rw (not_le zero64 (neg r) (flipped r h))
  where
    flipped : (r : Float) → T (lt one64 r) → T (lt (neg r) zero64)
    flipped nan h = absurd (unfold of_bits lt in h)
    flipped (inf true) h = absurd (unfold of_bits lt in h)
    flipped (inf false) h = unfold of_bits lt neg in tt
    flipped (fin true m e) h = absurd (unfold of_bits lt in h)
    flipped (fin false m e) h = unfold of_bits lt neg in lt→ltb 0 (m * up e * 1 + 0 * 1 * down e) (omega (arith, ltb→lt (1 * 1 * down e) (m * up e * 1) (unfold of_bits lt in h)))

quotient : (u : Bool) (p q : ℕ) → 0 < q → 2 * q < p → shared (round binary64 u p q) ≡ false
quotient u p q h l = go u
  where
    large : T (lt one64 (round binary64 false p q))
    large = above-one (round binary64 false p q) (subst (λ (x : Float). T (le x (round binary64 false p q))) two (round_mono binary64 2 1 p q (omega arith) h (omega arith)))
      where
        two : round binary64 false 2 1 ≡ two64
        two = unfold round of_bits in refl

    go : (u : Bool) → shared (round binary64 u p q) ≡ false
    go false = too_large (round binary64 false p q) large
    go true = rw (turned p q) (too_small (round binary64 false p q) large)

-- an infinity or a NaN is none
no_number : (b s : Bool) → shared (cond b nan (inf s)) ≡ false
unfolding of_bits le
no_number true s = refl
no_number false true = refl
no_number false false = refl

fits-unsigned : (s : Bool) (m : ℕ) (e : ℤ) → T (fits binary64 (fin s m e)) → T (fits binary64 (fin false m e))
unfolding fits
fits-unsigned s zero e h = h
fits-unsigned s (suc m) e h = h

pub far_off : (n d : Float) → T (fits binary64 n) → T (lt (square (add binary64 d d)) (square n)) → shared (div binary64 n d) ≡ false
far_off nan d h l = unfold div of_bits le in refl
far_off (inf s) nan h l = unfold div of_bits le in refl
far_off (inf s) (inf t) h l = unfold div of_bits le in refl
far_off (inf s) (fin t k f) h l = unfold div in no_number false (unlike s t)
far_off (fin s m e) nan h l = unfold div of_bits le in refl
far_off (fin s m e) (inf true) h l = absurd (never_above (square (fin s m e)) (unfold add mul in l))
far_off (fin s m e) (inf false) h l = absurd (never_above (square (fin s m e)) (unfold add mul in l))
far_off (fin s m e) (fin t zero f) h l = unfold div in no_number (eqb m 0) (unlike s t)
far_off (fin s m e) (fin t (suc k) f) h l =
    unfold div in rw (digits_apart k)
    (quotient (unlike s t) (m * up e * down f) (suc k * up f * down e) (mul-pos (mul-pos (zero-lt-suc k) (up_pos f)) (down_pos e))
    (far_apart s t m (suc k) e f (fits-unsigned s m e h) l))
