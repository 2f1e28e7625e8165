-- Numbers and points that are the same are equal, and so are their patterns.
use Rattle.std.proofs.Common.{◌≡◌, ℕ, ◌+◌, ◌*◌, ◌/◌, ◌%◌, ◌^◌, ◌<◌, Bool, true, false, ◌&&◌, T, eqb, ℤ, pos, negsuc, sym, refl, ap, ◌∙◌, subst, ⊎_elim, mul-le-mul, arith}
use mathlib.Core.Bool.{beq}
use lib.Ieee.{Float, nan, inf, fin, binary64, fits, of_bits, to_bits}
use lib.Ieee.Bits.{of_bits-to_bits, to_bits-lt}
use Rattle.vector.specs.declared.Vector.{Vector}
use Rattle.order.proofs.Tests.{truth, clash, both, both_left, both_right, eqb-true, eqb-false, eqb-self}
use Rattle.path_classes.specs.Classes.{same_exponent, same_number, same_point}
use Rattle.path_classes.specs.InnerKeys.{Held, spread_of, mix_of}

never : {A : Type 0} → false ≡ true → A
never h = absurd (subst T (sym h) tt)

-- ---- numbers

exponent_eq : (a b : ℤ) → same_exponent a b ≡ true → a ≡ b
unfolding same_exponent
exponent_eq (pos a) (pos b) h = ap pos (eqb-true a b h)
exponent_eq (pos a) (negsuc b) h = never h
exponent_eq (negsuc a) (pos b) h = never h
exponent_eq (negsuc a) (negsuc b) h = ap negsuc (eqb-true a b h)

exponent_self : (a : ℤ) → same_exponent a a ≡ true
unfolding same_exponent
exponent_self (pos a) = eqb-self a
exponent_self (negsuc a) = eqb-self a

sign_eq : (s t : Bool) → beq s t ≡ true → s ≡ t
sign_eq true true h = refl
sign_eq true false h = never h
sign_eq false true h = never h
sign_eq false false h = refl

sign_self : (s : Bool) → beq s s ≡ true
sign_self true = refl
sign_self false = refl

pub number_eq : (x y : Float) → same_number x y ≡ true → x ≡ y
unfolding same_number
number_eq nan nan h = refl
number_eq nan (inf t) h = never h
number_eq nan (fin t n d) h = never h
number_eq (inf s) nan h = never h
number_eq (inf s) (inf t) h = ap inf (sign_eq s t h)
number_eq (inf s) (fin t n d) h = never h
number_eq (fin s m e) nan h = never h
number_eq (fin s m e) (inf t) h = never h
number_eq (fin s m e) (fin t n d) h =
    let k = both_left (beq s t && eqb m n) (same_exponent e d) h in
    let p : s ≡ t = sign_eq s t (both_left (beq s t) (eqb m n) k) in
    let q : m ≡ n = eqb-true m n (both_right (beq s t) (eqb m n) k) in
    let r : e ≡ d = exponent_eq e d (both_right (beq s t && eqb m n) (same_exponent e d) h) in
    cc

pub number_self : (x : Float) → same_number x x ≡ true
unfolding same_number
number_self nan = refl
number_self (inf s) = sign_self s
number_self (fin s m e) = both (both (sign_self s) (eqb-self m)) (exponent_self e)

-- ---- points

pub vector_eq : (a b : Vector) → a.x ≡ b.x → a.y ≡ b.y → a.z ≡ b.z → a ≡ b
vector_eq a b p q r =
    ap (λ (t : Float). made t a.y a.z) p ∙ ap (λ (t : Float). made b.x t a.z) q ∙ ap (λ (t : Float). made b.x b.y t) r
  where
    made : Float → Float → Float → Vector
    made x y z = record { x = x; y = y; z = z }

-- the two laws of the test: points that are the same are equal, and each is the same as itself
pub point_eq : (a b : Vector) → same_point a b ≡ true → a ≡ b
unfolding same_point
point_eq a b h =
    let k = both_left (same_number a.x b.x && same_number a.y b.y) (same_number a.z b.z) h in
    vector_eq a b
    (number_eq a.x b.x (both_left (same_number a.x b.x) (same_number a.y b.y) k))
    (number_eq a.y b.y (both_right (same_number a.x b.x) (same_number a.y b.y) k))
    (number_eq a.z b.z (both_right (same_number a.x b.x && same_number a.y b.y) (same_number a.z b.z) h))

pub point_self : (a : Vector) → same_point a a ≡ true
unfolding same_point
point_self a = both (both (number_self a.x) (number_self a.y)) (number_self a.z)

pub same_of_lem : (a b : Vector) → a ≡ b → same_point a b ≡ true
same_of_lem a b e = subst (λ (z : Vector). same_point a z ≡ true) e (point_self a)

-- ---- patterns

pub held : (x : Float) → T (fits binary64 x) → Held x
held x h = record { small = to_bits-lt binary64 x h; back = of_bits-to_bits binary64 x h }

-- numbers of one pattern are equal
pub pattern_eq : (x y : Float) → Held x → Held y → to_bits binary64 x ≡ to_bits binary64 y → x ≡ y
pattern_eq x y h k e = sym h.back ∙ ap (of_bits binary64) e ∙ k.back

pub by_pattern : (x y : Float) → Held x → Held y → eqb (to_bits binary64 x) (to_bits binary64 y) ≡ same_number x y
by_pattern x y h k = ⊎_elim
    (λ t. rw (number_eq x y t) (eqb-self (to_bits binary64 y) ∙ sym (number_self y)))
    (λ t. eqb-false _ _ (λ e. clash {b = same_number x y} (rw (pattern_eq x y h k e) (number_self y)) t) ∙ sym t)
    (truth (same_number x y))

-- the upper half of a pattern
pub upper_half : (x : Float) (p : ℕ) → Held x → p ≡ to_bits binary64 x → p / 2 ^ 32 ≡ to_bits binary64 x / 2 ^ 32 % 2 ^ 32
upper_half x p h e = omega (arith, h.small)

-- ---- mixes

pub product_lt : (a b : ℕ) → a < 2 ^ 32 → b < 2 ^ 32 → a * b < 2 ^ 64
product_lt a b h k = omega (arith, mul-le-mul {n₁ = a} {m₁ = b} {n₂ = 4294967295} {m₂ = 4294967295} (omega arith) (omega arith))

pub mix_is : (v : Vector) (p q r x y z u w : ℕ) → p ≡ to_bits binary64 v.x → q ≡ to_bits binary64 v.y → r ≡ to_bits binary64 v.z
    → x ≡ spread_of p 0x9e37_79b1 0x85eb_ca77 → y ≡ spread_of q 0xc2b2_ae3d 0x27d4_eb2f → z ≡ spread_of r 0x1656_67b1 0xd3a2_646d
    → u ≡ (x + y) % 2 ^ 64 → w ≡ (u + z) % 2 ^ 64 → w / 2 ^ 10 ≡ mix_of v
unfolding mix_of
mix_is v p q r x y z u w a b c d e f g h = cc
