-- `floor_of` answers as `FloorOf` states, the greatest whole number not above the value, and the statement leaves one answer.
use Rattle.std.proofs.Common.{◌≡◌, ℕ, zero, suc, ◌+◌, ◌-◌, ◌*◌, ◌/◌, ◌^◌, ◌<◌, ◌≤◌, Bool, true, false, T, ltb, ℤ, pos, negsuc, ◌+ℤ◌, ◌*ℤ◌, neg_ℤ, sym, refl, ap, ◌∙◌, ⊎_elim, zero-lt-suc, suc-mul, add-mul, mul-pos, one-mul, zero-mul, div-mul-le_self, arith, le→leb, ltb→lt, lt→ltb, leb→le}
use lib.Arith.{digits_div, le→nltb}
use lib.Signed.{le_z, lt_z}
use lib.Ieee.{Float, nan, inf, fin, up, down}
use lib.Ieee.Bits.{is_true, is_false}
use lib.Ieee.Fits.{down_pos}
use Rattle.refusal.specs.Said.{Said}
use Rattle.refusal.specs.One.{One}
use Rattle.vector.specs.Floor.{floor_of, whole_below, Greatest, FloorOf}
use Rattle.vector.proofs.Floors.{whole, floor_is, none_left, some_left, quot_high}
use Rattle.vector.proofs.Roots.{lt-or_ge}

-- ---- the order of numbers below zero
neg_le : (x y : ℕ) → y ≤ x → T (le_z (neg_ℤ (pos x)) (neg_ℤ (pos y)))
neg_le zero zero h = tt
neg_le zero (suc y) h = absurd (omega arith)
neg_le (suc x) zero h = tt
neg_le (suc x) (suc y) h = le→leb y x (omega arith)

neg_lt : (x y : ℕ) → y < x → T (lt_z (neg_ℤ (pos x)) (neg_ℤ (pos y)))
neg_lt zero y h = absurd (omega arith)
neg_lt (suc x) zero h = tt
neg_lt (suc x) (suc y) h = lt→ltb y x (omega arith)

neg_next : (k : ℕ) → negsuc k +ℤ pos 1 ≡ neg_ℤ (pos k)
neg_next zero = refl
neg_next (suc k) =
    let t : ltb 1 (suc (suc k)) ≡ true = is_true (ltb 1 (suc (suc k))) (lt→ltb 1 (suc (suc k)) (omega arith)) in
    let n : suc (suc k) - 2 ≡ k = omega arith in
    rw (t, n)

neg_times : (k d : ℕ) → neg_ℤ (pos k) *ℤ pos d ≡ neg_ℤ (pos (k * d))
neg_times zero d = rw zero-mul
neg_times (suc k) d = refl

-- ---- what is worked out is the greatest
positive : (a d : ℕ) → 0 < d → Greatest false a d (whole_below false a d)
positive a d h = record {
  not_above = record { le = le→leb (a / d * d) a (div-mul-le_self a d) };
  next_above = record { lt = lt→ltb a ((a / d + 1) * d) (omega (arith, quot_high a d h, add-mul (a / d) 1 d)) };
}

zero_lt : (a b : ℕ) → a ≤ 0 → 0 < b → T (lt_z (neg_ℤ (pos a)) (pos b))
zero_lt zero b h k = lt→ltb 0 b k
zero_lt (suc a) b h k = tt

negative : (a d q : ℕ) → 0 < d → a ≤ q * d → q * d < a + d → Greatest true a d (neg_ℤ (pos q))
negative a d zero D h k = record {
  not_above = record { le = rw (neg_times 0 d) (neg_le (0 * d) a h) };
  next_above = record { lt = zero_lt a ((0 + 1) * d) (omega (arith, zero-mul d)) (omega (arith, one-mul d)) };
}
negative a d (suc q) D h k = record {
  not_above = record { le = neg_le (suc q * d) a h };
  next_above = record { lt = rw (neg_next q, neg_times q d) (neg_lt a (q * d) (omega (arith, suc-mul q d))) };
}

pub greatest : (s : Bool) (a d : ℕ) → 0 < d → Greatest s a d (whole_below s a d)
greatest false a d h = positive a d h
greatest true a d h = negative a d ((a + (d - 1)) / d) h (omega (arith, quot_high (a + (d - 1)) d h)) (omega (arith, div-mul-le_self (a + (d - 1)) d))

pub floor_of-greatest : (x : Float) → FloorOf x (floor_of x)
floor_of-greatest nan = unfold FloorOf floor_of in refl
floor_of-greatest (inf s) = unfold FloorOf floor_of in refl
floor_of-greatest (fin s m e) =
    unfold FloorOf in (
      λ h. (whole_below s (m * up e) (down e), floor_is s m e (lt→ltb (m * up e) (2 ^ 53 * down e) h), greatest s (m * up e) (down e) (down_pos e)),
      λ h. unfold floor_of in rw (is_false (ltb (m * up e) (2 ^ 53 * down e)) (le→nltb (m * up e) (2 ^ 53 * down e) h)),
    )

-- ---- the order leaves one answer
neg_le_back : (x y : ℕ) → T (le_z (neg_ℤ (pos x)) (neg_ℤ (pos y))) → y ≤ x
neg_le_back zero zero h = omega arith
neg_le_back zero (suc y) h = absurd h
neg_le_back (suc x) zero h = omega arith
neg_le_back (suc x) (suc y) h = omega (arith, leb→le y x h)

neg_lt_back : (x y : ℕ) → T (lt_z (neg_ℤ (pos x)) (neg_ℤ (pos y))) → y < x
neg_lt_back zero zero h = absurd (omega (arith, ltb→lt 0 0 h))
neg_lt_back zero (suc y) h = absurd h
neg_lt_back (suc x) zero h = omega arith
neg_lt_back (suc x) (suc y) h = omega (arith, ltb→lt y x h)

not_below : (a b : ℕ) → T (lt_z (pos a) (neg_ℤ (pos b))) → ⊥
not_below a zero h = omega (arith, ltb→lt a 0 h)
not_below a (suc b) h = h

-- 0 < d, and q * d is not above -a: both are 0
both_zero : (q a d : ℕ) → 0 < d → T (le_z (pos (q * d)) (neg_ℤ (pos a))) → (q ≡ 0) × (a ≡ 0)
both_zero zero zero d D h = (refl, refl)
both_zero (suc q) zero d D h = absurd (omega (arith, leb→le (suc q * d) 0 h, mul-pos (zero-lt-suc q) D))
both_zero q (suc a) d D h = absurd h

is_greatest : (s : Bool) (a d : ℕ) (z : ℤ) → 0 < d → Greatest s a d z → z ≡ whole_below s a d
is_greatest false a d (pos q) D g =
    let l = leb→le (q * d) a g.not_above.le in
    let h = ltb→lt a ((q + 1) * d) g.next_above.lt in
    let r : a ≡ q * d + (a - q * d) = omega arith in
    let k : a / d ≡ q = ap (λ (x : ℕ). x / d) r ∙ digits_div q (omega (arith, add-mul q 1 d)) in
    ap pos (sym k)
is_greatest false a d (negsuc k) D g = absurd (not_below a (k * d) (rw (neg_next k, neg_times k d) at g.next_above.lt))
is_greatest true a d (pos q) D g =
    let b = both_zero q a d D g.not_above.le in
    let k : (a + (d - 1)) / d ≡ 0 = ap (λ (x : ℕ). (x + (d - 1)) / d) (b.1 ∙ sym (zero-mul d)) ∙ none_left 0 d D in
    rw (b.0, k)
is_greatest true a d (negsuc k) D g =
    let l = neg_le_back (suc k * d) a g.not_above.le in
    let h = neg_lt_back a (k * d) (rw (neg_next k, neg_times k d) at g.next_above.lt) in
    rw (some_left k a d h (omega (arith, suc-mul k d)))

pub one-floor : (x : Float) → One (Said ℤ) (FloorOf x)
unfolding FloorOf
one-floor nan r t p q = p ∙ sym q
one-floor (inf s) r t p q = p ∙ sym q
one-floor (fin s m e) r t p q = ⊎_elim small large (lt-or_ge (m * up e) (2 ^ 53 * down e))
  where
    small : m * up e < 2 ^ 53 * down e → r ≡ t
    small h =
        let y = p.0 h in
        let z = q.0 h in
        y.1 ∙ ap whole (is_greatest s (m * up e) (down e) y.0 (down_pos e) y.2 ∙ sym (is_greatest s (m * up e) (down e) z.0 (down_pos e) z.2)) ∙ sym z.1

    large : 2 ^ 53 * down e ≤ m * up e → r ≡ t
    large h = p.1 h ∙ sym (q.1 h)
