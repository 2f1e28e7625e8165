-- Which f64 are exactly an f32, by the exponent's field and the digits.
use mathlib.Core.Path.{◌≡◌, refl, sym, ap, ◌∙◌, subst}
use mathlib.Core.Logic.{◌⊎◌, inl, inr, ⊎_elim}
use mathlib.Core.Bool.{Bool, true, false, not, cond, ◌&&◌}
use Prim.Native.Nat.{ℕ, zero, suc, ◌+◌, ◌-◌, ◌*◌, ◌/◌, ◌%◌, ◌^◌, ◌≤◌, ◌<◌}
use native.Mathlib.Nat.{zero-lt-suc, zero-add, sub-zero, suc-add, not-le_of_lt, le_trans, le_of_eq, le_of_lt, lt_of_lt_of_le, lt_of_le_of_lt, lt_of_mul-lt-mul_right, mul-lt-mul_of_pos_right, mul-le-mul_left, mul-le-mul_right, mul_right_comm, one-mul}
use native.Mathlib.Omega.{arith}
use lib.Dec.{T, not_T, leb-zero, eqb-suc-zero, leb, ltb, eqb, eqb→eq, leb→le, le→leb, ltb→lt, lt→ltb, nltb→le, nleb→lt, lit≤}
use lib.IntN.{ℤ, pos, negsuc}
use lib.Pow.{pow-add, pow_pos, pow_mono, pow-lt, shl_lt}
use lib.Count.{count_trailing_zeros, under}
use lib.Ieee.{Float, nan, inf, fin, up, down, minus, odd, binary32, binary64, fits, of_fields}
use lib.Ieee.Digits.{Equals, odd_val}
use lib.Ieee.Bits.{is_false}
use lib.Ieee.Positive.{first_pos}
use lib.Ieee.Fits.{and_i, and_l, and_r, eq→eqb, odd-fits, down_pos}

lt-or_ge : (a b : ℕ) → (a < b) ⊎ (b ≤ a)
lt-or_ge a b = go (ltb a b) (ltb→lt a b) (nltb→le a b)
  where
    go : (t : Bool) → (T t → a < b) → (T (not t) → b ≤ a) → (a < b) ⊎ (b ≤ a)
    go true f g = inl (f tt)
    go false f g = inr (g tt)

exponents : (a b : ℕ) → 2 ^ a ≤ 2 ^ b → a ≤ b
exponents a b h = ⊎_elim (λ g. absurd (not-le_of_lt (pow-lt g) h)) (λ g. g) (lt-or_ge b a)

exponents_lt : (a b : ℕ) → 2 ^ a < 2 ^ b → a < b
exponents_lt a b h = ⊎_elim (λ g. g) (λ g. absurd (not-le_of_lt h (pow_mono g))) (lt-or_ge a b)

-- ---- what an f32 that is not zero has: 24 digits at most, none below 2 ^ -149, and it is below 2 ^ 128
record Held (m : ℕ) (e : ℤ) : Type 0 where
  few : m < 2 ^ 24
  fine : down e ≤ 2 ^ 149
  short : m * up e < 2 ^ 128 * down e

abbrev test_a : ℕ → Bool
test_a m = eqb (suc m % 2) 1

abbrev test_b : ℕ → Bool
test_b m = ltb (suc m) (2 ^ 24)

abbrev test_c : ℤ → Bool
test_c e = leb (down e) (2 ^ 149)

abbrev test_d : ℕ → ℤ → Bool
test_d m e = ltb (suc m * up e) (2 ^ 128 * down e)

held : (s : Bool) (m : ℕ) (e : ℤ) → 0 < m → T (fits binary32 (fin s m e)) → Held m e
unfolding fits
held s zero e p h = absurd (omega arith)
held s (suc m) e p h =
    let abc = and_l (test_a m && test_b m && test_c e) (test_d m e) h in
    record {
      few = ltb→lt (suc m) (2 ^ 24) (and_r (test_a m) (test_b m) (and_l (test_a m && test_b m) (test_c e) abc));
      fine = leb→le (down e) (2 ^ 149) (and_r (test_a m && test_b m) (test_c e) abc);
      short = ltb→lt (suc m * up e) (2 ^ 128 * down e) (and_r (test_a m && test_b m && test_c e) (test_d m e) h);
    }

holds : (s : Bool) (m : ℕ) (e : ℤ) → m % 2 ≡ 1 → Held m e → T (fits binary32 (fin s m e))
unfolding fits
holds s zero e o h = absurd (omega arith)
holds s (suc m) e o h =
    and_i (test_a m && test_b m && test_c e) (test_d m e)
    (and_i (test_a m && test_b m) (test_c e) (and_i (test_a m) (test_b m) (eq→eqb o) (lt→ltb (suc m) (2 ^ 24) h.few)) (le→leb (down e) (2 ^ 149) h.fine))
    (lt→ltb (suc m * up e) (2 ^ 128 * down e) h.short)

-- ---- a number, its zeros at the end, and what is before them
halved : (d q : ℕ) → q < 2 ^ suc d → q / 2 < 2 ^ d
halved d q h = omega arith

-- how many digits are looked at does not matter
zeros-more : (d k q : ℕ) → 0 < q → q < 2 ^ d → count_trailing_zeros (d + k) q ≡ count_trailing_zeros d q
unfolding count_trailing_zeros
zeros-more zero k q p h = absurd (omega arith)
zeros-more (suc d) k q p h = rw (suc-add d k) (go (q % 2) refl (λ r. zeros-more d k (q / 2) (omega arith) (halved d q h)))
  where
    go : (r : ℕ) → q % 2 ≡ r → (q % 2 ≡ 0 → count_trailing_zeros (d + k) (q / 2) ≡ count_trailing_zeros d (q / 2)) → under r (count_trailing_zeros (d + k) (q / 2)) ≡ under r (count_trailing_zeros d (q / 2))
    go zero e more = ap suc (more e)
    go (suc r) e more = refl

odd_some : (d : ℕ) (s : Bool) (q k l : ℕ) → 0 < q → odd d s q k l ≡ fin s (q / 2 ^ count_trailing_zeros d q) (minus (k + count_trailing_zeros d q) l)
unfolding odd
odd_some d s zero k l h = absurd (omega arith)
odd_some d s (suc q) k l h = refl

-- ---- q * 2 ^ (x - 1074), for a q of at most 53 digits
abbrev zeros : ℕ → ℕ
zeros q = count_trailing_zeros 53 q

abbrev rest : ℕ → ℕ
rest q = q / 2 ^ zeros q

abbrev place : ℕ → ℕ → ℤ
place q x = minus (x + zeros q) 1074

fits-odd : (s : Bool) (m : ℕ) (e : ℤ) → 0 < m → T (fits binary64 (fin s m e)) → m % 2 ≡ 1
unfolding fits
fits-odd s zero e p h = absurd (omega arith)
fits-odd s (suc m) e p h =
    let b = ltb (suc m) (2 ^ 53) in
    let c = leb (down e) (2 ^ 1074) in
    let d = ltb (suc m * up e) (2 ^ 1024 * down e) in
    eqb→eq (suc m % 2) 1 (and_l (test_a m) b (and_l (test_a m && b) c (and_l (test_a m && b && c) d h)))

-- no digit is below 2 ^ -149
fine→ : (a : ℕ) → down (minus a 1074) ≤ 2 ^ 149 → 925 ≤ a
fine→ a h = go (leb 1074 a) (leb→le 1074 a) (nleb→lt 1074 a) h
  where
    go : (b : Bool) → (T b → 1074 ≤ a) → (T (not b) → a < 1074) → down (cond b (pos (a - 1074)) (negsuc (1074 - suc a))) ≤ 2 ^ 149 → 925 ≤ a
    go true f g h = omega (arith, f tt)
    go false f g h = omega (arith, g tt, exponents (suc (1074 - suc a)) 149 h)

→fine : (a : ℕ) → 925 ≤ a → down (minus a 1074) ≤ 2 ^ 149
→fine a h = go (leb 1074 a) (nleb→lt 1074 a)
  where
    go : (b : Bool) → (T (not b) → a < 1074) → down (cond b (pos (a - 1074)) (negsuc (1074 - suc a))) ≤ 2 ^ 149
    go true g = pow_pos 149
    go false g = pow_mono {i = suc (1074 - suc a)} {j = 149} (omega (arith, g tt))

plainly : (a : ℕ) → minus a 0 ≡ pos a
plainly a = rw (leb-zero a) (ap pos (sub-zero a))

-- a number is what is before its zeros, and the zeros
together : (q : ℕ) → 0 < q → rest q * 2 ^ zeros q ≡ q
together q some =
    let v : rest q * up (minus (0 + zeros q) 0) * 2 ^ 0 ≡ q * 2 ^ 0 * down (minus (0 + zeros q) 0) = subst (λ (v : Float). Equals v (q * 2 ^ 0) (2 ^ 0)) (odd_some 53 false q 0 0 some) (odd_val 53 false q 0 0) in
    let w : rest q * 2 ^ zeros q * 1 ≡ q * 1 * 1 = subst (λ (e : ℤ). rest q * up e * 1 ≡ q * 1 * down e) (plainly (0 + zeros q) ∙ ap pos (zero-add (zeros q))) v in
    omega arith

rest_some : (q : ℕ) → 0 < q → 0 < rest q
rest_some q some = first_pos (rest q) (2 ^ zeros q) (subst (λ (n : ℕ). 0 < n) (sym (together q some)) some)

module _ (s : Bool) (q x : ℕ) (some : 0 < q) (most : q < 2 ^ 53) where
  value_is : rest q * up (place q x) * 2 ^ 1074 ≡ q * 2 ^ x * down (place q x)
  value_is = subst (λ (v : Float). Equals v (q * 2 ^ x) (2 ^ 1074)) (odd_some 53 s q x 1074 some) (odd_val 53 s q x 1074)

  rest_odd : rest q % 2 ≡ 1
  rest_odd = fits-odd s (rest q) (minus (0 + zeros q) 1074) (rest_some q some) (subst (λ (v : Float). T (fits binary64 v)) (odd_some 53 s q 0 1074 some) (odd-fits binary64 53 s q 0 most (le_of_lt most) (lt_of_lt_of_le (shl_lt 53 0 most) (lit≤ tt))))

  short→ : rest q * up (place q x) < 2 ^ 128 * down (place q x) → q * 2 ^ x < 2 ^ 1202
  short→ h =
      lt_of_mul-lt-mul_right (down (place q x))
      (lt_of_le_of_lt (le_of_eq (sym value_is))
      (lt_of_lt_of_le (mul-lt-mul_of_pos_right h (pow_pos 1074)) (le_of_eq (mul_right_comm (2 ^ 128) (down (place q x)) (2 ^ 1074)))))

  →short : q * 2 ^ x < 2 ^ 1202 → rest q * up (place q x) < 2 ^ 128 * down (place q x)
  →short h =
      lt_of_mul-lt-mul_right (2 ^ 1074)
      (lt_of_le_of_lt (le_of_eq value_is)
      (lt_of_lt_of_le (mul-lt-mul_of_pos_right h (down_pos (place q x))) (le_of_eq (mul_right_comm (2 ^ 128) (2 ^ 1074) (down (place q x))))))

  narrow→ : T (fits binary32 (odd 53 s q x 1074)) → (rest q < 2 ^ 24) × (925 ≤ x + zeros q) × (q * 2 ^ x < 2 ^ 1202)
  narrow→ h =
      let k = held s (rest q) (place q x) (rest_some q some) (subst (λ (v : Float). T (fits binary32 v)) (odd_some 53 s q x 1074 some) h) in
      (k.few, fine→ (x + zeros q) k.fine, short→ k.short)

  →narrow : rest q < 2 ^ 24 → 925 ≤ x + zeros q → q * 2 ^ x < 2 ^ 1202 → T (fits binary32 (odd 53 s q x 1074))
  →narrow a b c = rw (odd_some 53 s q x 1074 some) (holds s (rest q) (place q x) rest_odd (record { few = a; fine = →fine (x + zeros q) b; short = →short c }))

-- ---- the same, by the exponent's field and the digits
same_test : (a b : Bool) → (T a → T b) → (T b → T a) → a ≡ b
same_test true true p q = refl
same_test true false p q = absurd (p tt)
same_test false true p q = absurd (q tt)
same_test false false p q = refl

-- an infinity or NaN
pub at_top : (s : Bool) (x t : ℕ) → x ≡ 2047 → true ≡ fits binary32 (of_fields binary64 s x t)
unfolding of_fields
at_top s x t e = rw e (go (eqb t 0))
  where
    go : (b : Bool) → true ≡ fits binary32 (cond b (inf s) nan)
    go true = unfold fits in refl
    go false = unfold fits in refl

-- of the f64 without a leading digit only the zeros
pub at-bottom : (s : Bool) (x t : ℕ) → x ≡ 0 → t < 2 ^ 52 → eqb t 0 ≡ fits binary32 (of_fields binary64 s x t)
unfolding of_fields
at-bottom s x zero e h = rw e (unfold odd fits in refl)
at-bottom s x (suc t) e h =
    rw (e, eqb-suc-zero t)
    (same_test false (fits binary32 (odd 53 s (suc t) 0 1074)) (λ u. absurd u)
    (λ u.
    let some = zero-lt-suc t in
    let k = narrow→ s (suc t) 0 some (omega arith) u in
    let l : 2 ^ zeros (suc t) ≤ suc t = le_trans (le_of_eq (sym (one-mul (2 ^ zeros (suc t))))) (le_trans (mul-le-mul_right (2 ^ zeros (suc t)) (rest_some (suc t) some)) (le_of_eq (together (suc t) some))) in
    absurd (omega (arith, k.1, exponents_lt (zeros (suc t)) 52 (lt_of_le_of_lt l h)))))

-- with a leading digit: 24 digits are what 29 zeros leave of 53
few→ : (q : ℕ) → 2 ^ 52 ≤ q → rest q < 2 ^ 24 → 29 ≤ zeros q
few→ q least l = ⊎_elim (λ g. absurd (no g)) (λ g. g) (lt-or_ge (zeros q) 29)
  where
    no : zeros q < 29 → ⊥
    no g = omega (arith, together q (omega arith), mul-le-mul_left (rest q) (pow_mono {i = zeros q} {j = 28} (omega arith)))

→few : (q : ℕ) → 0 < q → q < 2 ^ 53 → 29 ≤ zeros q → rest q < 2 ^ 24
→few q some most l = ⊎_elim (λ g. g) (λ g. absurd (no g)) (lt-or_ge (rest q) (2 ^ 24))
  where
    no : 2 ^ 24 ≤ rest q → ⊥
    no g = omega (arith, together q some, mul-le-mul_left (rest q) (pow_mono {i = 29} {j = zeros q} l))

top→ : (q x : ℕ) → 2 ^ 52 ≤ q → q * 2 ^ x < 2 ^ 1202 → x < 1150
top→ q x least h = omega (arith, exponents_lt (52 + x) 1202 (lt_of_le_of_lt (le_of_eq (pow-add 2 52 x)) (lt_of_le_of_lt (mul-le-mul_right (2 ^ x) least) h)))

→top : (q x : ℕ) → q < 2 ^ 53 → x < 1150 → q * 2 ^ x < 2 ^ 1202
→top q x most h = lt_of_lt_of_le (shl_lt 53 x most) (pow_mono {i = 53 + x} {j = 1202} (omega arith))

leading : (s : Bool) (x t : ℕ) → suc x < 2047 → of_fields binary64 s (suc x) t ≡ odd 53 s (2 ^ 52 + t) x 1074
unfolding of_fields
leading s x t h = rw (is_false (eqb (suc x) 2047) (not_T (eqb (suc x) 2047) (λ u. no (eqb→eq (suc x) 2047 u))))
  where
    no : suc x ≡ 2047 → ⊥
    no e = omega arith

-- how many zeros are at the end of the digits with the leading one
abbrev pub zeros_of : ℕ → ℕ
zeros_of t = count_trailing_zeros 64 (2 ^ 52 + t)

module _ (s : Bool) (x t : ℕ) (most : x < 2048) (no_top : x ≡ 2047 → ⊥) (no-bottom : x ≡ 0 → ⊥) (h : t < 2 ^ 52) where
  zeros-are : zeros_of t ≡ zeros (2 ^ 52 + t)
  zeros-are = zeros-more 53 11 (2 ^ 52 + t) (omega arith) (omega arith)

  is_odd : of_fields binary64 s x t ≡ odd 53 s (2 ^ 52 + t) (x - 1) 1074
  is_odd = let e : x ≡ suc (x - 1) = omega arith in ap (λ (n : ℕ). of_fields binary64 s n t) e ∙ leading s (x - 1) t (omega arith)

  parts : T (fits binary32 (of_fields binary64 s x t)) → (29 ≤ zeros_of t) × (926 ≤ x + zeros_of t) × (x < 1151)
  parts u =
      let q = 2 ^ 52 + t in
      let k = narrow→ s q (x - 1) (omega arith) (omega arith) (subst (λ (v : Float). T (fits binary32 v)) is_odd u) in
      let a = few→ q (omega arith) k.0 in
      let b = top→ q (x - 1) (omega arith) k.2 in
      rw zeros-are (a, omega (arith, k.1), omega arith)

  -- more than 24 digits; a digit below 2 ^ -149; else it is the size alone that tells
  pub too_long : zeros_of t < 29 → false ≡ fits binary32 (of_fields binary64 s x t)
  too_long l = same_test false (fits binary32 (of_fields binary64 s x t)) (λ u. absurd u) (λ u. absurd (omega (arith, (parts u).0)))

  pub too_fine : x + zeros_of t < 926 → false ≡ fits binary32 (of_fields binary64 s x t)
  too_fine l = same_test false (fits binary32 (of_fields binary64 s x t)) (λ u. absurd u) (λ u. absurd (omega (arith, (parts u).1)))

  pub by_size : 29 ≤ zeros_of t → 926 ≤ x + zeros_of t → ltb x 1151 ≡ fits binary32 (of_fields binary64 s x t)
  by_size a b =
      let q = 2 ^ 52 + t in
      same_test (ltb x 1151) (fits binary32 (of_fields binary64 s x t))
      (λ u.
      let l = ltb→lt x 1151 u in
      subst (λ (v : Float). T (fits binary32 v)) (sym is_odd)
      (→narrow s q (x - 1) (omega arith) (omega arith)
      (→few q (omega arith) (omega arith) (subst (λ (n : ℕ). 29 ≤ n) zeros-are a))
      (omega (arith, subst (λ (n : ℕ). 926 ≤ x + n) zeros-are b))
      (→top q (x - 1) (omega arith) (omega arith))))
      (λ u. lt→ltb x 1151 (parts u).2)
