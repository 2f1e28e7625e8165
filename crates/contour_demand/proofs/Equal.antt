-- Numbers that fit are written in one way: those that compare equal are the same, but for 0 and -0.
use mathlib.Core.Path.{◌≡◌, refl, sym, ap, ◌∙◌, subst}
use mathlib.Core.Bool.{Bool, true, false, beq, ◌&&◌, ◌||◌}
use mathlib.Core.Logic.{⊎_elim}
use Prim.Native.Nat.{ℕ, zero, suc, ◌+◌, ◌*◌, ◌%◌, ◌^◌, ◌<◌}
use native.Mathlib.Nat.{mul-one, zero-mul, mul_assoc, mul_left_comm, mul-pos, pow-succ', zero-lt-suc}
use native.Mathlib.Omega.{arith}
use lib.Dec.{T, eqb, ltb, leb, eqb→eq}
use lib.Pow.{pow-add}
use lib.IntN.{ℤ, pos, negsuc}
use lib.Ieee.{nan, inf, Float, fin, binary64, prec, emax, low, up, down, level, fits, eq}
use lib.Ieee.Back.{whole_unique}
use lib.Ieee.Fits.{and_l, and_r, up_pos, down_pos}
use lib.Ieee.Scale.{finite}
use Rattle.vector.specs.declared.Vector.{Vector}
use Rattle.vector.specs.Vectors.{equal_of}
use Rattle.order.proofs.Tests.{truth, clash, both, both_left, both_right, eqb-true, eqb-self}
use Rattle.path_classes.specs.Classes.{same_number, same_point}
use Rattle.path_classes.proofs.Same.{number_eq, number_self}
use Rattle.mesh_contour_rule.specs.Numbers.{no_minus_zero, Coordinates}
use Rattle.contour_demand.specs.Points.{plain_number, SameEqual}

-- ---- an odd number times a power of two

twice : (n b : ℕ) → n * 2 ^ suc b ≡ 2 * (n * 2 ^ b)
twice n b = ap (λ (x : ℕ). n * x) (pow-succ' 2 b) ∙ mul_left_comm n 2 (2 ^ b)

odd_pow : (m n a b : ℕ) → m % 2 ≡ 1 → n % 2 ≡ 1 → m * 2 ^ a ≡ n * 2 ^ b → (m ≡ n) × (a ≡ b)
odd_pow m n zero zero o p h = (sym (mul-one m) ∙ h ∙ mul-one n, refl)
odd_pow m n zero (suc b) o p h = absurd (omega (arith, sym (mul-one m) ∙ h ∙ twice n b))
odd_pow m n (suc a) zero o p h = absurd (omega (arith, sym (mul-one n) ∙ sym h ∙ twice m a))
odd_pow m n (suc a) (suc b) o p h = let r = odd_pow m n a b o p (omega (arith, sym (twice m a) ∙ h ∙ twice n b)) in (r.0, ap suc r.1)

-- the same of values, over exponents of either sign
one_form : (m n : ℕ) (e d : ℤ) → m % 2 ≡ 1 → n % 2 ≡ 1 → m * up e * down d ≡ n * up d * down e → (m ≡ n) × (e ≡ d)
one_form m n (pos a) (pos b) o p h =
    let r = odd_pow m n a b o p (sym (mul-one (m * 2 ^ a)) ∙ h ∙ mul-one (n * 2 ^ b)) in (r.0, ap pos r.1)
one_form m n (pos a) (negsuc b) o p h = absurd (omega (arith, (odd_pow m n (a + suc b) 0 o p (ap (λ (x : ℕ). m * x) (pow-add 2 a (suc b)) ∙ sym (mul_assoc m (2 ^ a) (2 ^ suc b)) ∙ h ∙ mul-one (n * 1))).1))
one_form m n (negsuc a) (pos b) o p h = absurd (omega (arith, (odd_pow n m (b + suc a) 0 p o (ap (λ (x : ℕ). n * x) (pow-add 2 b (suc a)) ∙ sym (mul_assoc n (2 ^ b) (2 ^ suc a)) ∙ sym h ∙ mul-one (m * 1))).1))
one_form m n (negsuc a) (negsuc b) o p h =
    let r = odd_pow m n (suc b) (suc a) o p (ap (λ (x : ℕ). x * 2 ^ suc b) (sym (mul-one m)) ∙ h ∙ ap (λ (x : ℕ). x * 2 ^ suc a) (mul-one n)) in
    let k : a ≡ b = omega (arith, r.1) in
    (r.0, ap negsuc k)

-- ---- what fits

is_odd : (s : Bool) (m : ℕ) (e : ℤ) → T (fits binary64 (fin s (suc m) e)) → suc m % 2 ≡ 1
unfolding fits
is_odd s m e t =
    let A = eqb (suc m % 2) 1 in
    let B = ltb (suc m) (2 ^ prec binary64) in
    let C = leb (down e) (2 ^ low binary64) in
    eqb→eq (suc m % 2) 1 (and_l A B (and_l (A && B) C (and_l (A && B && C) (ltb (suc m * up e) (2 ^ suc (emax binary64) * down e)) t)))

some : (m : ℕ) (e d : ℤ) → 0 < suc m * up e * down d
some m e d = mul-pos (mul-pos (zero-lt-suc m) (up_pos e)) (down_pos d)

none : (e d : ℤ) → 0 * up e * down d ≡ 0
none e d = ap (λ (x : ℕ). x * down d) (zero-mul (up e)) ∙ zero-mul (down d)

-- ---- numbers that compare equal

signs : (s t : Bool) (k : ℕ) → 0 < k → beq s t || eqb k 0 ≡ true → s ≡ t
signs true true k h e = refl
signs false false k h e = refl
signs true false k h e = absurd (omega (arith, eqb-true k 0 e))
signs false true k h e = absurd (omega (arith, eqb-true k 0 e))

zero_sign : (s : Bool) (e : ℤ) → T (no_minus_zero (fin s zero e)) → s ≡ false
zero_sign false e h = refl
zero_sign true e h = absurd h

zero_value : (e : ℤ) → 0 * up e * 1 ≡ 0 * down e
zero_value e = none e (pos 0) ∙ sym (zero-mul (down e))

value_eq : (s t : Bool) (m n : ℕ) (e d : ℤ) → level s (m * up e * down d) t (n * up d * down e) ≡ true → m * up e * down d ≡ n * up d * down e
value_eq s t m n e d h = eqb-true _ _ (both_left (eqb (m * up e * down d) (n * up d * down e)) (beq s t || eqb (m * up e * down d) 0) h)

both_some : (s t : Bool) (m n : ℕ) (e d : ℤ) → T (fits binary64 (fin s (suc m) e)) → T (fits binary64 (fin t (suc n) d)) → level s (suc m * up e * down d) t (suc n * up d * down e) ≡ true → fin s (suc m) e ≡ fin t (suc n) d
both_some s t m n e d f g h =
    let a = suc m * up e * down d in
    let p = signs s t a (some m e d) (both_right (eqb a (suc n * up d * down e)) (beq s t || eqb a 0) h) in
    let r = one_form (suc m) (suc n) e d (is_odd s m e f) (is_odd t n d g) (value_eq s t (suc m) (suc n) e d h) in
    λ i. fin (p i) (r.0 i) (r.1 i)

equal_same : (x y : Float) → T (fits binary64 x) → T (fits binary64 y) → T (no_minus_zero x) → T (no_minus_zero y) → T (finite x) → T (finite y) → eq x y ≡ true → x ≡ y
unfolding eq
equal_same nan y f g a b u w h = elim u [ ]
equal_same (inf _) y f g a b u w h = elim u [ ]
equal_same (fin s zero e) nan f g a b u w h = elim w [ ]
equal_same (fin s zero e) (inf _) f g a b u w h = elim w [ ]
equal_same (fin s (suc m) e) nan f g a b u w h = elim w [ ]
equal_same (fin s (suc m) e) (inf _) f g a b u w h = elim w [ ]
equal_same (fin s zero e) (fin t zero d) f g a b u w h = whole_unique binary64 (fin s zero e) (fin t zero d) false 0 f g (zero_sign s e a, zero_value e) (zero_sign t d b, zero_value d)
equal_same (fin s zero e) (fin t (suc n) d) f g a b u w h = absurd (omega (arith, value_eq s t 0 (suc n) e d h, none e d, some n d e))
equal_same (fin s (suc m) e) (fin t zero d) f g a b u w h = absurd (omega (arith, value_eq s t (suc m) 0 e d h, none d e, some m e d))
equal_same (fin s (suc m) e) (fin t (suc n) d) f g a b u w h = both_some s t m n e d f g h

sign_self : (s : Bool) (c : Bool) → beq s s || c ≡ true
sign_self true c = refl
sign_self false c = refl

equal_self : (x : Float) → T (finite x) → eq x x ≡ true
unfolding eq
equal_self nan h = elim h [ ]
equal_self (inf _) h = elim h [ ]
equal_self (fin s m e) h = both (eqb-self (m * up e * down e)) (sign_self s (eqb (m * up e * down e) 0))

-- ---- the statement

numbers-equal : (x y : Float) → T (plain_number x) → T (plain_number y) → same_number x y ≡ eq x y
numbers-equal x y p q =
    let f = and_l (fits binary64 x && finite x) (no_minus_zero x) p in
    let g = and_l (fits binary64 y && finite y) (no_minus_zero y) q in
    let u = and_r (fits binary64 x) (finite x) f in
    let w = and_r (fits binary64 y) (finite y) g in
    let one = equal_same x y (and_l (fits binary64 x) (finite x) f) (and_l (fits binary64 y) (finite y) g) (and_r (fits binary64 x && finite x) (no_minus_zero x) p) (and_r (fits binary64 y && finite y) (no_minus_zero y) q) u w in
    ⊎_elim
    (λ e. e ∙ sym (subst (λ (z : Float). eq x z ≡ true) (number_eq x y e) (equal_self x u)))
    (λ e. ⊎_elim (λ t. absurd (clash {b = same_number x y} (subst (λ (z : Float). same_number x z ≡ true) (one t) (number_self x)) e)) (λ t. e ∙ sym t) (truth (eq x y)))
    (truth (same_number x y))

regroup : (r s t : Bool) → (r && s) && t ≡ r && (s && t)
regroup true s t = refl
regroup false s t = refl

points_equal : (a b : Vector) → Coordinates plain_number a → Coordinates plain_number b → same_point a b ≡ equal_of a b
unfolding same_point equal_of
points_equal a b p q =
    rw (numbers-equal a.x b.x p.0 q.0, numbers-equal a.y b.y p.1 q.1, numbers-equal a.z b.z p.2 q.2)
    (regroup (eq a.x b.x) (eq a.y b.y) (eq a.z b.z))

-- f64 numbers that are finite and not -0 are the same where they compare equal, and so are points of such numbers
pub same-equal : SameEqual
same-equal = record { numbers = numbers-equal; points = points_equal }
