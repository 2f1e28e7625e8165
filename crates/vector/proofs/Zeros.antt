-- Numbers within a bound have sums, differences and products within a bound, so finite ones. Within 0 is a zero, of either
-- sign: the difference of two numbers that compare equal is one, and so is one times a finite number.
use Rattle.std.proofs.Common.{◌≡◌, ℕ, zero, suc, ◌+◌, ◌-◌, ◌*◌, ◌^◌, ◌<◌, ◌≤◌, Bool, true, false, cond, not, ◌&&◌, ◌||◌, T, eqb, ltb, ◌⊎◌, ℤ, pos, sym, refl, ap, ◌∙◌, subst, inl, inr, ⊎_elim, le_trans, le_of_eq, le_refl, mul-le-mul_right, zero-lt-suc, mul_assoc, mul_comm, add-mul, mul-le-mul, mul-le-mul_left, mul-pos, zero-add, zero-mul, mul-add, mul_right_comm, mul_left_comm, arith, eqb→eq, nltb→le, le-ltb, lt-ltb}
use mathlib.Core.Bool.{beq}
use native.Mathlib.Nat.{sub-zero, mul-mul-mul_comm, mul-sub, mul-lt-mul_of_pos_left}
use lib.Ieee.{Float, nan, inf, fin, up, down, unlike, binary64, of_bits, odd, units, round, neg, sum, add, sub, mul, lt, eq, le, below, level}
use lib.Ieee.Fits.{and_l, and_r, down_pos, round_is}
use lib.Ieee.Order.{round_mono}
use lib.Ieee.Scale.{round_same}
use lib.Ieee.Positive.{through}
use Rattle.vector.specs.declared.Vector.{Vector}
use Rattle.vector.specs.Abs.{abs_of}
use Rattle.vector.specs.Lengths.{zero64, length_of}
use Rattle.vector.proofs.Roots.{lt-or_ge}
use Rattle.vector.proofs.Shares.{le_not_lt}
use Rattle.vector.proofs.RootLaws.{length-zero}

-- finite, and of magnitude at most c
pub data Within (c : ℕ) : Float → Type 0 where
  within : (s : Bool) (m : ℕ) (e : ℤ) → m * up e ≤ c * down e → Within c (fin s m e)

-- what is not above a number in magnitude is within its bound
no_more : (t : Bool) (a b : ℕ) → T (not (below t b false a)) → a ≤ b
no_more false a b h = nltb→le b a h
no_more true a b h = omega (arith, nltb→le 0 (b + a) h)

pub under : {c : ℕ} (x : Float) {y : Float} → Within c y → T (le (abs_of x) y) → Within c x
unfolding abs_of le lt
under nan k h = absurd h
under (inf s) (within t n d k) h = absurd h
under {c} (fin s m e) (within t n d k) h =
    let l = no_more t (m * up e * down d) (n * up d * down e) (le_not_lt (fin false m e) (fin t n d) h) in
    within s m e (omega (arith, through (m * up e) (n * up d) c (down e) (down d) 1 (down_pos d) l (omega arith)))

-- ---- rounding within a bound that is an f64
abbrev pub Kept : ℕ → Type 0
Kept c = Within c (round binary64 false c 1)

abs_units : (s : Bool) (q k : ℕ) → abs_of (units binary64 s q k) ≡ units binary64 false q k
unfolding units
abs_units s q k = go (ltb (q * 2 ^ k) (2 ^ 2098)) q
  where
    go : (t : Bool) (q : ℕ) → abs_of (cond t (odd 54 s q k 1074) (inf s)) ≡ cond t (odd 54 false q k 1074) (inf false)
    go true zero = unfold odd abs_of in refl
    go true (suc q) = unfold odd abs_of in refl
    go false q = unfold abs_of in refl

pub abs_round : (s : Bool) (a b : ℕ) → abs_of (round binary64 s a b) ≡ round binary64 false a b
abs_round s a b = ap abs_of (round_is binary64 s a b) ∙ abs_units s _ _ ∙ sym (round_is binary64 false a b)

round_within : {c : ℕ} → Kept c → (s : Bool) (a b : ℕ) → 0 < b → a ≤ c * b → Within c (round binary64 s a b)
round_within {c} k s a b B h = under (round binary64 s a b) k (rw (abs_round s a b) (round_mono binary64 a b c 1 B (omega arith) (omega arith)))

-- a sum of two fractions: both together, or one less the other
sum-within : {c : ℕ} → Kept c → (s t : Bool) (a b d : ℕ) → 0 < d → a + b ≤ c * d → Within c (sum binary64 s a t b d)
unfolding sum
sum-within {c} k s t a b d D h = go (beq s t) (ltb a b)
  where
    go : (x y : Bool) → Within c (cond x (round binary64 s (a + b) d) (cond y (round binary64 t (b - a) d) (round binary64 (s && ltb b a) (a - b) d)))
    go true y = round_within k s (a + b) d D h
    go false true = round_within k t (b - a) d D (omega arith)
    go false false = round_within k (s && ltb b a) (a - b) d D (omega arith)

-- ---- sums, differences and products
joined : (x y p q b c : ℕ) → x ≤ b * p → y ≤ c * q → x * q + y * p ≤ (b + c) * (p * q)
joined x y p q b c h k = omega (arith, mul-le-mul_right q h, mul-le-mul_right p k, mul_assoc b p q, mul_right_comm c q p, mul_assoc c p q, add-mul b c (p * q))

pub add-within : {b c : ℕ} {x y : Float} → Kept (b + c) → Within b x → Within c y → Within (b + c) (add binary64 x y)
unfolding add
add-within {b} {c} k (within s m e h) (within t n d l) =
    sum-within k s t (m * up e * down d) (n * up d * down e) (down e * down d) (mul-pos (down_pos e) (down_pos d)) (joined (m * up e) (n * up d) (down e) (down d) b c h l)

neg_within : {c : ℕ} {x : Float} → Within c x → Within c (neg x)
unfolding neg
neg_within (within s m e h) = within (not s) m e h

pub sub_within : {b c : ℕ} {x y : Float} → Kept (b + c) → Within b x → Within c y → Within (b + c) (sub binary64 x y)
unfolding sub
sub_within k x y = add-within k x (neg_within y)

pub mul-within : {b c : ℕ} {x y : Float} → Kept (b * c) → Within b x → Within c y → Within (b * c) (mul binary64 x y)
unfolding mul
mul-within {b} {c} k (within s m e h) (within t n d l) =
    round_within k (unlike s t) (m * up e * (n * up d)) (down e * down d) (mul-pos (down_pos e) (down_pos d))
    (le_trans (mul-le-mul h l) (le_of_eq (mul-mul-mul_comm b (down e) c (down d))))

mul-turned : {b c : ℕ} {x y : Float} → Within b x → Within c y → mul binary64 x y ≡ mul binary64 y x
unfolding mul
mul-turned (within s m e h) (within t n d l) = rw (mul_comm (m * up e) (n * up d), mul_comm (down e) (down d), turned s t)
  where
    turned : (s t : Bool) → unlike s t ≡ unlike t s
    turned true true = refl
    turned true false = refl
    turned false true = refl
    turned false false = refl

-- ---- zeros
pub none : Kept 0
unfolding round
none = within false 0 (pos 0) (le_refl 0)

zero_level : {x : Float} → Within 0 x → eq x zero64 ≡ true
unfolding of_bits eq
zero_level (within s m e h) = let z : m * up e ≡ 0 = omega arith in rw (z, zero-mul (down e)) (last s)
  where
    last : (s : Bool) → (beq s false || true) ≡ true
    last true = refl
    last false = refl

-- a vector of zeros has the computed length 0
pub zero_length : (v : Vector) → Within 0 v.x → Within 0 v.y → Within 0 v.z → eq (length_of v) zero64 ≡ true
zero_length v x y z = length-zero v ∙ zero_level (add-within none (add-within none (mul-within none x x) (mul-within none y y)) (mul-within none z z))

-- a number less itself
own_sum : (s : Bool) (a d : ℕ) → 0 < d → Within 0 (sum binary64 s a (not s) a d)
unfolding sum
own_sum true a d D = rw (le-ltb a a (le_refl a)) (round_within none false (a - a) d D (omega arith))
own_sum false a d D = rw (le-ltb a a (le_refl a)) (round_within none false (a - a) d D (omega arith))

pub own_sub : {c : ℕ} {x : Float} → Within c x → Within 0 (sub binary64 x x)
unfolding sub
own_sub (within s m e h) = own_sum s (m * up e * down e) (down e * down e) (mul-pos (down_pos e) (down_pos e))

-- ---- the same number, or two zeros: what numbers that compare equal leave, less a third
pub data Like : Float → Float → Type 0 where
  same : {x : Float} → Like x x
  nil : {x y : Float} → Within 0 x → Within 0 y → Like x y

-- a sum of fractions sees only their values
scaled : (k : ℕ) → 0 < k → (s t : Bool) (a b d : ℕ) → 0 < d → sum binary64 s a t b d ≡ sum binary64 s (k * a) t (k * b) (k * d)
unfolding sum
scaled k K s t a b d D = rw (order a b, order b a, ← mul-add k a b, ← mul-sub k b a, ← mul-sub k a b, by s (a + b), by t (b - a), by (s && ltb b a) (a - b))
  where
    order : (a b : ℕ) → ltb (k * a) (k * b) ≡ ltb a b
    order a b =
        ⊎_elim (λ l. lt-ltb (k * a) (k * b) (mul-lt-mul_of_pos_left l K) ∙ sym (lt-ltb a b l))
        (λ l. le-ltb (k * a) (k * b) (mul-le-mul_left k l) ∙ sym (le-ltb a b l)) (lt-or_ge a b)

    by : (s : Bool) (n : ℕ) → round binary64 s (k * n) (k * d) ≡ round binary64 s n d
    by s n = round_same binary64 s (k * n) (k * d) n d (mul-pos K D) D (mul_assoc k n d ∙ mul_left_comm k n d)

-- a zero before a sum: its sign matters only where the other is a zero too
zero_sum : (s t : Bool) (b d : ℕ) → sum binary64 s 0 t (suc b) d ≡ round binary64 t (suc b) d
unfolding sum
zero_sum true true b d = rw (zero-add (suc b))
zero_sum false false b d = rw (zero-add (suc b))
zero_sum true false b d = rw (lt-ltb 0 (suc b) (zero-lt-suc b), sub-zero (suc b))
zero_sum false true b d = rw (lt-ltb 0 (suc b) (zero-lt-suc b), sub-zero (suc b))

like_sum : (s t u : Bool) (a b d : ℕ) → 0 < d → (s ≡ t) ⊎ (a ≡ 0) → Like (sum binary64 s a u b d) (sum binary64 t a u b d)
like_sum s t u a b d D (inl e) = subst (λ (v : Bool). Like (sum binary64 s a u b d) (sum binary64 v a u b d)) e same
like_sum s t u a zero d D (inr z) = nil (sum-within none s u a 0 d D (omega arith)) (sum-within none t u a 0 d D (omega arith))
like_sum s t u a (suc b) d D (inr z) =
    subst (λ (n : ℕ). Like (sum binary64 s n u (suc b) d) (sum binary64 t n u (suc b) d)) (sym z) (rw (zero_sum s u b d, zero_sum t u b d) same)

less : (s t u : Bool) (a b c p q r : ℕ) → 0 < p → 0 < q → 0 < r → a * q ≡ b * p → (s ≡ t) ⊎ (a * q ≡ 0)
    → Like (sum binary64 s (a * r) u (c * p) (p * r)) (sum binary64 t (b * r) u (c * q) (q * r))
less s t u a b c p q r P Q R e o =
    let value : (k n : ℕ) → k * (n * r) ≡ n * k * r = λ k n. mul_left_comm k n r ∙ sym (mul_assoc n k r) in
    rw (scaled q Q s u (a * r) (c * p) (p * r) (mul-pos P R), scaled p P t u (b * r) (c * q) (q * r) (mul-pos Q R), value q a, value p b, ← e)
    (rw (mul_left_comm q c p, mul_comm q p, mul_left_comm p c q, mul_left_comm p q r)
    (like_sum s t u (a * q * r) (c * (p * q)) (q * (p * r)) (mul-pos Q (mul-pos P R)) (⊎_elim (λ i. inl i) (λ z. inr (ap (λ (n : ℕ). n * r) z ∙ zero-mul r)) o)))

-- numbers that compare equal have one value, and one sign or the value 0
levelled : (s t : Bool) (a b : ℕ) → level s a t b ≡ true → (a ≡ b) × ((s ≡ t) ⊎ (a ≡ 0))
levelled s t a b h =
    let l = subst T (sym h) tt in
    (eqb→eq a b (and_l (eqb a b) (beq s t || eqb a 0) l), signs s t (and_r (eqb a b) (beq s t || eqb a 0) l))
  where
    signs : (s t : Bool) → T (beq s t || eqb a 0) → (s ≡ t) ⊎ (a ≡ 0)
    signs true true o = inl refl
    signs true false o = inr (eqb→eq a 0 o)
    signs false true o = inr (eqb→eq a 0 o)
    signs false false o = inl refl

pub like_sub : {b c d : ℕ} {x y z : Float} → Within b x → Within c y → Within d z → eq x y ≡ true → Like (sub binary64 x z) (sub binary64 y z)
unfolding eq sub
like_sub (within s m e h) (within t n d k) (within u o f i) l =
    let v = levelled s t (m * up e * down d) (n * up d * down e) l in
    less s t (not u) (m * up e) (n * up d) (o * up f) (down e) (down d) (down f) (down_pos e) (down_pos d) (down_pos f) v.0 v.1

-- so their difference is 0
pub level_sub : {b c : ℕ} {x y : Float} → Within b x → Within c y → eq x y ≡ true → Within 0 (sub binary64 y x)
level_sub x y e = go (like_sub x y x e) (own_sub x)
  where
    go : {v w : Float} → Like v w → Within 0 v → Within 0 w
    go same h = h
    go (nil v w) h = w

-- ---- a coordinate of a cross product of two sides that are alike, where the corners are within 2^500
abbrev pub large : ℕ
large = 2 ^ 500

abbrev pub wide : ℕ
wide = large + large

pub wide_kept : Kept wide
unfolding round
wide_kept = within false 1 (pos 501) (le_refl (2 ^ 501))

product_kept : Kept (wide * wide)
unfolding round
product_kept = within false 1 (pos 1002) (le_refl (2 ^ 1002))

pub like_cross : {a b a' b' : Float} → Within wide a → Within wide b → Within wide a' → Within wide b' → Like a a' → Like b b' → Within 0 (sub binary64 (mul binary64 a b') (mul binary64 b a'))
like_cross a b a' b' same same = rw (mul-turned b a) (own_sub (mul-within product_kept a b))
like_cross a b a' b' same (nil y y') = sub_within none (mul-within none a y') (mul-within none y a')
like_cross a b a' b' (nil x x') l = sub_within none (mul-within none x b') (mul-within none b x')
