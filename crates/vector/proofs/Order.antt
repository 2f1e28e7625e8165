-- The order of floats: what is below a number is below any that this number is not above, and no two numbers are below each other.
use Rattle.std.proofs.Common.{ℕ, zero, suc, ◌+◌, ◌*◌, ◌<◌, ◌≤◌, Bool, true, false, not, T, le_trans, le_of_eq, lt_of_lt_of_le, lt_of_le_of_lt, le_of_lt, mul-le-mul_right, zero-lt-suc, lt_of_mul-lt-mul_right, mul-lt-mul_of_pos_right, mul-pos, zero-mul, mul_right_comm, arith, ltb→lt, lt→ltb, nltb→le}
use lib.Arith.{le→nltb}
use lib.Ieee.{Float, nan, inf, fin, up, down, lt, below, is_nan}
use lib.Ieee.Fits.{down_pos}

-- of fractions: p / P below a / A, and a / A not above b / B
less_through : (p a b P A B : ℕ) → 0 < A → 0 < B → p * A < a * P → a * B ≤ b * A → p * B < b * P
less_through p a b P A B hA hB l m =
    lt_of_mul-lt-mul_right A
    (lt_of_le_of_lt (le_of_eq (mul_right_comm p B A))
    (lt_of_lt_of_le (mul-lt-mul_of_pos_right l hB)
    (le_trans (le_of_eq (mul_right_comm a P B)) (le_trans (mul-le-mul_right P m) (le_of_eq (mul_right_comm b A P))))))

-- a / A not below b / B, and p / P above a / A
through_less : (p a b P A B : ℕ) → 0 < A → 0 < B → b * A ≤ a * B → a * P < p * A → b * P < p * B
through_less p a b P A B hA hB l m =
    lt_of_mul-lt-mul_right A
    (lt_of_le_of_lt (le_of_eq (mul_right_comm b P A))
    (lt_of_le_of_lt (mul-le-mul_right P l)
    (lt_of_le_of_lt (le_of_eq (mul_right_comm a B P)) (lt_of_lt_of_le (mul-lt-mul_of_pos_right m hB) (le_of_eq (mul_right_comm p A B))))))

-- a product that is not 0 has no factor 0
factor : (x y : ℕ) → 0 < x * y → 0 < x
factor zero y h = absurd (omega (arith, zero-mul y))
factor (suc x) y h = zero-lt-suc x

-- the same with signs
below-through : (s t u : Bool) (p a b P A B : ℕ) → 0 < P → 0 < A → 0 < B → T (below s (p * A) t (a * P)) → T (not (below u (b * A) t (a * B))) → T (below s (p * B) u (b * P))
below-through false false false p a b P A B hP hA hB l m = lt→ltb (p * B) (b * P) (less_through p a b P A B hA hB (ltb→lt _ _ l) (nltb→le _ _ m))
below-through true true true p a b P A B hP hA hB l m = lt→ltb (b * P) (p * B) (through_less p a b P A B hA hB (nltb→le _ _ m) (ltb→lt _ _ l))
below-through false true u p a b P A B hP hA hB l m = absurd l
below-through false false true p a b P A B hP hA hB l m =
    let k = mul-pos (factor a P (omega (arith, ltb→lt (p * A) (a * P) l))) hB in
    absurd (omega (arith, nltb→le 0 (b * A + a * B) m))
below-through true true false p a b P A B hP hA hB l m =
    let k = mul-pos (factor p A (omega (arith, ltb→lt (a * P) (p * A) l))) hB in
    lt→ltb 0 (p * B + b * P) (omega arith)
below-through true false false zero a b P A B hP hA hB l m =
    let i : 0 < a * P = omega (arith, ltb→lt 0 (zero * A + a * P) l, zero-mul A) in
    let j = mul-pos (factor a P i) hB in
    let k = mul-pos (factor b A (omega (arith, nltb→le (b * A) (a * B) m))) hP in
    lt→ltb 0 (zero * B + b * P) (omega arith)
below-through true false false (suc p) a b P A B hP hA hB l m =
    let k = mul-pos (zero-lt-suc p) hB in
    lt→ltb 0 (suc p * B + b * P) (omega arith)
below-through true false true p (suc a) b P A B hP hA hB l m =
    let k = mul-pos (zero-lt-suc a) hB in
    absurd (omega (arith, nltb→le 0 (b * A + suc a * B) m))
below-through true false true p zero (suc b) P A B hP hA hB l m =
    let k = mul-pos (zero-lt-suc b) hA in
    absurd (omega (arith, nltb→le 0 (suc b * A + zero * B) m))
below-through true false true p zero zero P A B hP hA hB l m =
    let i : 0 < p * A = omega (arith, ltb→lt 0 (p * A + zero * P) l, zero-mul P) in
    let k = mul-pos (factor p A i) hB in
    lt→ltb (zero * P) (p * B) (omega (arith, zero-mul P))

pub lt-through : (d a b : Float) → T (lt d a) → T (not (lt b a)) → T (not (is_nan b)) → T (lt d b)
unfolding lt is_nan
lt-through nan a b p q r = absurd p
lt-through (inf true) nan b p q r = absurd p
lt-through (inf true) (inf true) b p q r = absurd p
lt-through (inf true) (inf false) nan p q r = absurd r
lt-through (inf true) (inf false) (inf true) p q r = absurd q
lt-through (inf true) (inf false) (inf false) p q r = tt
lt-through (inf true) (inf false) (fin u k f) p q r = tt
lt-through (inf true) (fin t n e) nan p q r = absurd r
lt-through (inf true) (fin t n e) (inf true) p q r = absurd q
lt-through (inf true) (fin t n e) (inf false) p q r = tt
lt-through (inf true) (fin t n e) (fin u k f) p q r = tt
lt-through (inf false) nan b p q r = absurd p
lt-through (inf false) (inf t) b p q r = absurd p
lt-through (inf false) (fin t n e) b p q r = absurd p
lt-through (fin s m c) nan b p q r = absurd p
lt-through (fin s m c) (inf true) b p q r = absurd p
lt-through (fin s m c) (inf false) nan p q r = absurd r
lt-through (fin s m c) (inf false) (inf true) p q r = absurd q
lt-through (fin s m c) (inf false) (inf false) p q r = tt
lt-through (fin s m c) (inf false) (fin u k f) p q r = absurd q
lt-through (fin s m c) (fin t n e) nan p q r = absurd r
lt-through (fin s m c) (fin t n e) (inf true) p q r = absurd q
lt-through (fin s m c) (fin t n e) (inf false) p q r = tt
lt-through (fin s m c) (fin t n e) (fin u k f) p q r = below-through s t u (m * up c) (n * up e) (k * up f) (down c) (down e) (down f) (down_pos c) (down_pos e) (down_pos f) p q

-- no two numbers are below each other
below_one_way : (s t : Bool) (p q : ℕ) → T (below s p t q) → T (not (below t q s p))
below_one_way false false p q l = le→nltb q p (le_of_lt (ltb→lt p q l))
below_one_way false true p q l = absurd l
below_one_way true false p q l = tt
below_one_way true true p q l = le→nltb p q (le_of_lt (ltb→lt q p l))

pub lt-one_way : (a b : Float) → T (lt a b) → T (not (lt b a))
unfolding lt
lt-one_way nan b p = absurd p
lt-one_way (inf s) nan p = absurd p
lt-one_way (inf true) (inf true) p = absurd p
lt-one_way (inf true) (inf false) p = tt
lt-one_way (inf false) (inf t) p = absurd p
lt-one_way (inf true) (fin t n e) p = tt
lt-one_way (inf false) (fin t n e) p = absurd p
lt-one_way (fin s m c) nan p = absurd p
lt-one_way (fin s m c) (inf true) p = absurd p
lt-one_way (fin s m c) (inf false) p = tt
lt-one_way (fin s m c) (fin t n e) p = below_one_way s t (m * up c * down e) (n * up e * down c) p
