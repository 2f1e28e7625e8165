-- A quotient of two numbers, neither below 0 and the first not above the second, is neither below 0 nor above 1.
use Rattle.std.proofs.Common.{◌≡◌, ℕ, zero, suc, ◌+◌, ◌*◌, ◌<◌, ◌≤◌, Bool, true, false, not, ◌||◌, T, eqb, ℤ, refl, subst, zero-lt-suc, mul-pos, zero-mul, arith, eqb→eq, ltb→lt, nltb→le}
use lib.Arith.{le→nltb}
use lib.Ieee.{Float, nan, inf, fin, up, down, binary64, of_bits, round, div, lt, eq, le, below, level}
use lib.Ieee.Bits.{is_false}
use lib.Ieee.Fits.{and_l, and_r, up_pos, down_pos}
use lib.Ieee.Order.{round_mono}
use Rattle.vector.specs.Lengths.{zero64, one64}
use Rattle.vector.proofs.Order.{lt-one_way}

level_not_below : (s t : Bool) (a b : ℕ) → T (level s a t b) → T (not (below t b s a))
level_not_below false false a b h = let e = eqb→eq a b (and_l (eqb a b) true h) in le→nltb b a (omega arith)
level_not_below true true a b h = let e = eqb→eq a b (and_l (eqb a b) true h) in le→nltb a b (omega arith)
level_not_below true false a b h = tt
level_not_below false true a b h =
    let e = eqb→eq a b (and_l (eqb a b) (eqb a 0) h) in
    let z = eqb→eq a 0 (and_r (eqb a b) (eqb a 0) h) in
    le→nltb 0 (b + a) (omega arith)

eq_not_lt : (x y : Float) → T (eq x y) → T (not (lt y x))
unfolding eq lt
eq_not_lt nan y h = absurd h
eq_not_lt (inf s) nan h = absurd h
eq_not_lt (inf true) (inf true) h = tt
eq_not_lt (inf true) (inf false) h = absurd h
eq_not_lt (inf false) (inf true) h = absurd h
eq_not_lt (inf false) (inf false) h = tt
eq_not_lt (inf s) (fin t n d) h = absurd h
eq_not_lt (fin s m e) nan h = absurd h
eq_not_lt (fin s m e) (inf t) h = absurd h
eq_not_lt (fin s m e) (fin t n d) h = level_not_below s t (m * up e * down d) (n * up d * down e) h

pub le_not_lt : (x y : Float) → T (le x y) → T (not (lt y x))
unfolding le
le_not_lt x y h = go (lt x y) (eq x y) (lt-one_way x y) (eq_not_lt x y) h
  where
    go : (b c : Bool) → (T b → T (not (lt y x))) → (T c → T (not (lt y x))) → T (b || c) → T (not (lt y x))
    go true c f g h = f tt
    go false c f g h = g h

-- the quotient of two numbers above 0: rounding keeps the order, and 0 and 1 are themselves
share : (a b : ℕ) → 0 < b → a ≤ b → (lt (round binary64 false a b) zero64 ≡ false) × (lt one64 (round binary64 false a b) ≡ false)
share a b h l =
    let low = round_mono binary64 0 1 a b (omega arith) h (omega arith) in
    let high = round_mono binary64 a b 1 1 h (omega arith) (omega arith) in (
      is_false (lt (round binary64 false a b) zero64) (le_not_lt zero64 (round binary64 false a b) (subst (λ (x : Float). T (le x (round binary64 false a b))) nought low)),
      is_false (lt one64 (round binary64 false a b)) (le_not_lt (round binary64 false a b) one64 (subst (λ (x : Float). T (le (round binary64 false a b) x)) one high)),
    )
  where
    nought : round binary64 false 0 1 ≡ zero64
    nought = unfold round of_bits in refl

    one : round binary64 false 1 1 ≡ one64
    one = unfold round of_bits in refl

-- what is above 0 is infinity or has digits
no_digits : (e : ℤ) → T (lt zero64 (fin false zero e)) → ⊥
unfolding of_bits lt
no_digits e h = let z : zero * up e * 1 ≡ 0 = rw (zero-mul (up e)) refl in absurd (omega (arith, z, ltb→lt (0 * down e) (zero * up e * 1) h))

-- the quotient of numbers that have digits
pub digits_apart : (n : ℕ) → eqb (suc n) 0 ≡ false
digits_apart n = go (eqb (suc n) 0) (eqb→eq (suc n) 0)
  where
    go : (b : Bool) → (T b → suc n ≡ 0) → b ≡ false
    go true f = absurd (omega (arith, f tt))
    go false f = refl

pub quotient : (m n : ℕ) (e d : ℤ) → div binary64 (fin false m e) (fin false (suc n) d) ≡ round binary64 false (m * up e * down d) (suc n * up d * down e)
unfolding div
quotient m n e d = rw (digits_apart n)

pub within : (q l : Float) → T (lt zero64 q) → T (lt zero64 l) → T (not (lt l q)) → (lt (div binary64 q l) zero64 ≡ false) × (lt one64 (div binary64 q l) ≡ false)
unfolding of_bits lt div
within nan l j h k = absurd j
within (inf true) l j h k = absurd j
within (fin true m e) l j h k = absurd j
within (fin false zero e) l j h k = absurd (no_digits e j)
within (inf false) nan j h k = absurd h
within (inf false) (inf true) j h k = absurd h
within (inf false) (fin true n d) j h k = absurd h
within (inf false) (fin false zero d) j h k = absurd (no_digits d h)
within (fin false (suc m) e) nan j h k = absurd h
within (fin false (suc m) e) (inf true) j h k = absurd h
within (fin false (suc m) e) (fin true n d) j h k = absurd h
within (fin false (suc m) e) (fin false zero d) j h k = absurd (no_digits d h)
within (inf false) (inf false) j h k = (refl, refl)
within (inf false) (fin false (suc n) d) j h k = absurd k
within (fin false (suc m) e) (inf false) j h k = (refl, refl)
within (fin false (suc m) e) (fin false (suc n) d) j h k =
    rw (quotient (suc m) n e d)
    (share (suc m * up e * down d) (suc n * up d * down e) (mul-pos (mul-pos (zero-lt-suc n) (up_pos d)) (down_pos e)) (nltb→le (suc n * up d * down e) (suc m * up e * down d) k))

-- what is above 0 is not level with it
pub above-not_level : (l : Float) → T (lt zero64 l) → eq l zero64 ≡ false
above-not_level l h = go (eq l zero64) (λ t. clash (lt zero64 l) h (eq_not_lt l zero64 t))
  where
    clash : (b : Bool) → T b → T (not b) → ⊥
    clash true p q = q
    clash false p q = p

    go : (b : Bool) → (T b → ⊥) → b ≡ false
    go true f = absurd (f tt)
    go false f = refl
