-- What the proof of `floor` cites: a value whose magnitude is below 2 ^ 53, cut to a whole number, and that number as a float again.
use Rattle.std.proofs.Common.{◌≡◌, ℕ, zero, suc, ◌+◌, ◌-◌, ◌*◌, ◌/◌, ◌^◌, ◌<◌, ◌≤◌, min, Bool, true, false, cond, not, T, ltb, [], ◌∷◌, ℤ, pos, negsuc, ◌-ℤ◌, neg_ℤ, nat_abs, sym, refl, ap, ◌∙◌, subst, le_of_lt, lt-suc_self, suc-mul, div-lt_iff_lt-mul, add-mul, lt_of_mul-lt-mul_right, mul-lt-mul_of_pos_right, zero-mul, mul-one, mul_right_comm, not-le_of_lt, div-mul-le_self, arith, lit<, le→leb, ltb→lt, lt→ltb, nltb→le, w64, SFits}
use lib.Arith.{digits_div, le→nltb}
use lib.Ieee.{eq, le, Float, nan, inf, fin, up, down, binary64, lt, below, of_int, to_signed, in_float}
use lib.Ieee.Bits.{is_true, is_false}
use lib.Ieee.Exact.{HasValue}
use lib.Ieee.Fits.{down_pos}
use lib.Ieee.Back.{round_whole}
use Rattle.refusal.specs.Said.{Said, accepted, refused}
use Rattle.refusal.specs.declared.Refusal.TheVariants.{Number}
use Rattle.vector.specs.Floor.{floor_of, whole_below}

-- a whole number as an answer
abbrev pub whole : ℤ → Said ℤ
whole z = accepted (z ∷ [])

-- ---- tests
abbrev pub small : Float → Bool
small nan = false
small (inf s) = false
small (fin s m e) = ltb (m * up e) (2 ^ 53 * down e)

pub small_of : (x : Float) → lt (fin true 1 (pos 53)) x ≡ true → lt x (fin false 1 (pos 53)) ≡ true → T (small x)
unfolding lt
small_of x p q = go x (subst T (sym p) tt) (subst T (sym q) tt)
  where
    go : (x : Float) → T (lt (fin true 1 (pos 53)) x) → T (lt x (fin false 1 (pos 53))) → T (small x)
    go nan p q = absurd p
    go (inf true) p q = absurd p
    go (inf false) p q = absurd q
    go (fin true m e) p q = lt→ltb (m * up e) (2 ^ 53 * down e) (omega (arith, ltb→lt (m * up e * 1) (1 * 2 ^ 53 * down e) p))
    go (fin false m e) p q = lt→ltb (m * up e) (2 ^ 53 * down e) (omega (arith, ltb→lt (m * up e * 1) (1 * 2 ^ 53 * down e) q))

not_of : {b : Bool} → b ≡ false → T b → ⊥
not_of p t = subst T p t

refuse : (x : Float) → (T (small x) → ⊥) → floor_of x ≡ refused Number
unfolding floor_of
refuse nan h = refl
refuse (inf s) h = refl
refuse (fin s m e) h = go (ltb (m * up e) (2 ^ 53 * down e)) h
  where
    go : (b : Bool) → (T b → ⊥) → cond b (whole (whole_below s (m * up e) (down e))) (refused Number) ≡ refused Number
    go true h = absurd (h tt)
    go false h = refl

pub refuse_low : (x : Float) → lt (fin true 1 (pos 53)) x ≡ false → floor_of x ≡ refused Number
unfolding lt
refuse_low x p = refuse x (λ h. go x h (not_of p))
  where
    go : (x : Float) → T (small x) → (T (lt (fin true 1 (pos 53)) x) → ⊥) → ⊥
    go nan h n = h
    go (inf s) h n = h
    go (fin true m e) h n = n (lt→ltb (m * up e * 1) (1 * 2 ^ 53 * down e) (omega (arith, ltb→lt (m * up e) (2 ^ 53 * down e) h)))
    go (fin false m e) h n = n (lt→ltb 0 (1 * 2 ^ 53 * down e + m * up e * 1) (omega (arith, down_pos e)))

pub refuse_high : (x : Float) → lt x (fin false 1 (pos 53)) ≡ false → floor_of x ≡ refused Number
unfolding lt
refuse_high x p = refuse x (λ h. go x h (not_of p))
  where
    go : (x : Float) → T (small x) → (T (lt x (fin false 1 (pos 53))) → ⊥) → ⊥
    go nan h n = h
    go (inf s) h n = h
    go (fin true m e) h n = n (lt→ltb 0 (m * up e * 1 + 1 * 2 ^ 53 * down e) (omega (arith, down_pos e)))
    go (fin false m e) h n = n (lt→ltb (m * up e * 1) (1 * 2 ^ 53 * down e) (omega (arith, ltb→lt (m * up e) (2 ^ 53 * down e) h)))

-- ---- the cut
capped : (s : Bool) (q : ℕ) → q < 2 ^ 53 → cond s (neg_ℤ (pos (min q (2 ^ 63)))) (pos (min q (2 ^ 63 - 1))) ≡ cond s (neg_ℤ (pos q)) (pos q)
capped true q h = let k : min q (2 ^ 63) ≡ q = omega arith in rw k
capped false q h = let k : min q (2 ^ 63 - 1) ≡ q = omega arith in rw k

pub cut : (s : Bool) (m : ℕ) (e : ℤ) → T (small (fin s m e)) → to_signed 63 (fin s m e) ≡ cond s (neg_ℤ (pos (m * up e / down e))) (pos (m * up e / down e))
unfolding to_signed
cut s m e h = capped s (m * up e / down e) ((div-lt_iff_lt-mul (down_pos e)).1 (ltb→lt (m * up e) (2 ^ 53 * down e) h))

quot_lt : (m : ℕ) (e : ℤ) → T (ltb (m * up e) (2 ^ 53 * down e)) → m * up e / down e < 2 ^ 53
quot_lt m e h = (div-lt_iff_lt-mul (down_pos e)).1 (ltb→lt (m * up e) (2 ^ 53 * down e) h)

-- ---- a whole number as a float
abbrev sgn : ℤ → Bool
sgn (pos n) = false
sgn (negsuc n) = true

value : (z : ℤ) → nat_abs z ≤ 2 ^ 53 → HasValue (of_int binary64 z) (sgn z) (nat_abs z) 1
unfolding of_int
value (pos n) h = round_whole binary64 false n h
value (negsuc n) h = round_whole binary64 true (suc n) h

same_test : (a b : Bool) → (T a → T b) → (T b → T a) → a ≡ b
same_test true true p q = refl
same_test true false p q = absurd (p tt)
same_test false true p q = absurd (q tt)
same_test false false p q = refl

ltb-scale : (a b c : ℕ) → 0 < c → ltb (a * c) (b * c) ≡ ltb a b
ltb-scale a b c h =
    same_test (ltb (a * c) (b * c)) (ltb a b)
    (λ t. lt→ltb a b (lt_of_mul-lt-mul_right c (ltb→lt (a * c) (b * c) t)))
    (λ t. lt→ltb (a * c) (b * c) (mul-lt-mul_of_pos_right (ltb→lt a b t) h))

below-scale : (s : Bool) (a : ℕ) (t : Bool) (b c : ℕ) → 0 < c → below s (a * c) t (b * c) ≡ below s a t b
below-scale false a false b c h = ltb-scale a b c h
below-scale false a true b c h = refl
below-scale true a false b c h = ap (ltb 0) (sym (add-mul a b c)) ∙ ap (λ (z : ℕ). ltb z ((a + b) * c)) (sym (zero-mul c)) ∙ ltb-scale 0 (a + b) c h
below-scale true a true b c h = ltb-scale b a c h

against : (s : Bool) (m : ℕ) (e : ℤ) (y : Float) (t : Bool) (n : ℕ) → HasValue y t n 1 → lt (fin s m e) y ≡ below s (m * up e) t (n * down e)
unfolding lt
against s m e nan t n h = absurd h
against s m e (inf u) t n h = absurd h
against s m e (fin u k d) t n h =
    let p : k * up d * down e ≡ n * down e * down d = ap (λ (z : ℕ). z * down e) (sym (mul-one (k * up d)) ∙ h.1) ∙ mul_right_comm n (down d) (down e) in
    rw (h.0, p, below-scale s (m * up e) t (n * down e) (down d) (down_pos d))

-- ---- rounding away from zero, as below zero the greatest whole number not above is
pub none_left : (q d : ℕ) → 0 < d → (q * d + (d - 1)) / d ≡ q
none_left q d h = digits_div q (omega arith)

pub some_left : (q a d : ℕ) → q * d < a → a ≤ q * d + d → (a + (d - 1)) / d ≡ suc q
some_left q a d h k =
    let r : a + (d - 1) ≡ suc q * d + (a - q * d - 1) = omega (arith, suc-mul q d) in
    rw r (digits_div (suc q) (omega arith))

pub floor_is : (s : Bool) (m : ℕ) (e : ℤ) → T (small (fin s m e)) → floor_of (fin s m e) ≡ whole (whole_below s (m * up e) (down e))
unfolding floor_of
floor_is s m e h = rw (is_true (ltb (m * up e) (2 ^ 53 * down e)) h)

-- q is a / d cut, and the test is that of -a / d against -q
down-one : (a d q : ℕ) → 0 < d → q * d ≤ a → a < q * d + d → below true a (sgn (neg_ℤ (pos q))) (nat_abs (neg_ℤ (pos q)) * d) ≡ true → whole_below true a d ≡ neg_ℤ (pos q) -ℤ pos 1
down-one a d zero dp low high t =
    let k : 0 * d < a = omega (arith, ltb→lt 0 (a + 0 * d) (subst T (sym t) tt), zero-mul d) in
    rw (some_left 0 a d k (le_of_lt high))
down-one a d (suc q) dp low high t =
    let k : suc q * d < a = ltb→lt (suc q * d) a (subst T (sym t) tt) in
    let z : q + 0 ≡ q = omega arith in
    rw (some_left (suc q) a d k (le_of_lt high), z)

stay : (a d q : ℕ) → 0 < d → q * d ≤ a → a < q * d + d → below true a (sgn (neg_ℤ (pos q))) (nat_abs (neg_ℤ (pos q)) * d) ≡ false → whole_below true a d ≡ neg_ℤ (pos q)
stay a d zero dp low high t =
    let k : a ≡ 0 * d = omega (arith, nltb→le 0 (a + 0 * d) (subst (λ (b : Bool). T (not b)) (sym t) tt), zero-mul d) in
    rw (k, none_left 0 d dp)
stay a d (suc q) dp low high t =
    let k : a ≡ suc q * d = omega (arith, nltb→le (suc q * d) a (subst (λ (b : Bool). T (not b)) (sym t) tt)) in
    rw (k, none_left (suc q) d dp)

-- ---- the two answers
quot_low : (a d : ℕ) → a / d * d ≤ a
quot_low a d = div-mul-le_self a d

pub quot_high : (a d : ℕ) → 0 < d → a < a / d * d + d
quot_high a d h = rw (← suc-mul (a / d) d) ((div-lt_iff_lt-mul h).0 (lt-suc_self (a / d)))

nat_abs_neg : (q : ℕ) → nat_abs (neg_ℤ (pos q)) ≡ q
nat_abs_neg zero = refl
nat_abs_neg (suc q) = refl

cut-abs : (s : Bool) (q : ℕ) → nat_abs (cond s (neg_ℤ (pos q)) (pos q)) ≡ q
cut-abs true q = nat_abs_neg q
cut-abs false q = refl

-- the cut number is at most 2 ^ 53
pub cut-le : (x : Float) → T (small x) → nat_abs (to_signed 63 x) < 2 ^ 53
cut-le nan h = absurd h
cut-le (inf s) h = absurd h
cut-le (fin s m e) h = rw (cut s m e h, cut-abs s (m * up e / down e)) (quot_lt m e h)

compared : (s : Bool) (m : ℕ) (e : ℤ) (h : T (small (fin s m e))) (z : ℤ) → nat_abs z < 2 ^ 53 → lt (fin s m e) (of_int binary64 z) ≡ below s (m * up e) (sgn z) (nat_abs z * down e)
compared s m e h z l = against s m e (of_int binary64 z) (sgn z) (nat_abs z) (value z (le_of_lt l))

pub goes_down : (x : Float) → T (small x) → lt x (of_int binary64 (to_signed 63 x)) ≡ true → floor_of x ≡ whole (to_signed 63 x -ℤ pos 1)
goes_down nan h t = absurd h
goes_down (inf s) h t = absurd h
goes_down (fin true m e) h t =
    let a = m * up e in
    let d = down e in
    let q = a / d in
    let u : below true a (sgn (neg_ℤ (pos q))) (nat_abs (neg_ℤ (pos q)) * d) ≡ true = rw (cut true m e h) at (sym (compared true m e h (to_signed 63 (fin true m e)) (cut-le (fin true m e) h)) ∙ t) in
    floor_is true m e h ∙ ap whole (down-one a d q (down_pos e) (quot_low a d) (quot_high a d (down_pos e)) u ∙ rw (cut true m e h))
goes_down (fin false m e) h t =
    let a = m * up e in
    let d = down e in
    let u : ltb a (a / d * d) ≡ true = rw (cut false m e h) at (sym (compared false m e h (to_signed 63 (fin false m e)) (cut-le (fin false m e) h)) ∙ t) in
    absurd (not-le_of_lt (ltb→lt a (a / d * d) (subst T (sym u) tt)) (quot_low a d))

pub stays : (x : Float) → T (small x) → lt x (of_int binary64 (to_signed 63 x)) ≡ false → floor_of x ≡ whole (to_signed 63 x)
stays nan h t = absurd h
stays (inf s) h t = absurd h
stays (fin true m e) h t =
    let a = m * up e in
    let d = down e in
    let q = a / d in
    let u : below true a (sgn (neg_ℤ (pos q))) (nat_abs (neg_ℤ (pos q)) * d) ≡ false = rw (cut true m e h) at (sym (compared true m e h (to_signed 63 (fin true m e)) (cut-le (fin true m e) h)) ∙ t) in
    floor_is true m e h ∙ ap whole (stay a d q (down_pos e) (quot_low a d) (quot_high a d (down_pos e)) u ∙ rw (cut true m e h))
stays (fin false m e) h t = floor_is false m e h ∙ rw (cut false m e h)

-- ---- what the machine asks
pub in_range : (x : Float) → T (small x) → T (le (fin true 1 (pos 63)) x) × T (lt x (fin false 1 (pos 63)))
unfolding le lt eq
in_range nan h = absurd h
in_range (inf s) h = absurd h
in_range (fin true m e) h =
    let k = ltb→lt (m * up e) (2 ^ 53 * down e) h in
    let l : T (ltb (m * up e * 1) (1 * 2 ^ 63 * down e)) = lt→ltb (m * up e * 1) (1 * 2 ^ 63 * down e) (omega arith) in
    (rw (is_true (ltb (m * up e * 1) (1 * 2 ^ 63 * down e)) l) tt, lt→ltb 0 (m * up e * 1 + 1 * 2 ^ 63 * down e) (omega (arith, down_pos e)))
in_range (fin false m e) h =
    let k = ltb→lt (m * up e) (2 ^ 53 * down e) h in
    let l : T (ltb 0 (1 * 2 ^ 63 * down e + m * up e * 1)) = lt→ltb 0 (1 * 2 ^ 63 * down e + m * up e * 1) (omega (arith, down_pos e)) in
    (rw (is_true (ltb 0 (1 * 2 ^ 63 * down e + m * up e * 1)) l) tt, lt→ltb (m * up e * 1) (1 * 2 ^ 63 * down e) (omega (arith, down_pos e)))

pub holds : (z : ℤ) → nat_abs z < 2 ^ 53 → T (in_float binary64 z)
unfolding in_float
holds (pos n) h = le→leb n (2 ^ 53) (le_of_lt h)
holds (negsuc n) h = lt→ltb n (2 ^ 53) (omega arith)

pub one_less : (z : ℤ) → nat_abs z < 2 ^ 53 → SFits w64 (z -ℤ pos 1)
one_less (pos zero) h = record { sfits = lit< tt }
one_less (pos (suc n)) h = let l : ltb (suc n) 1 ≡ false = is_false (ltb (suc n) 1) (le→nltb (suc n) 1 (omega arith)) in record { sfits = rw l (omega arith) }
one_less (negsuc n) h = record { sfits = omega arith }
