-- What `decimal` writes of a number that fits a word: digits alone, none of them a leading zero, and their value is the number.
use mathlib.Core.Path.{◌≡◌, refl, sym, ap, subst, ◌∙◌}
use mathlib.Core.Bool.{Bool, true, false, cond}
use mathlib.Core.List.{List, [], ◌∷◌}
use Prim.Native.Nat.{ℕ, zero, suc, ◌+◌, ◌-◌, ◌*◌, ◌/◌, ◌%◌, ◌^◌, ◌≤◌, ◌<◌}
use native.Mathlib.Omega.{arith}
use native.Mathlib.Nat.{pow-suc, one-le-pow, div-one, div-div-eq-div-mul}
use lib.ListN.{get_or}
use lib.Dec.{ltb}
use borrow.Author.Tests.{ltb-true, ltb-false}
use Rattle.refusal.specs.One.{One}
use Rattle.refusal.specs.Each.{Each}
use Rattle.sheet_list.specs.Listing.{top_from, digits_from, decimal}
use Rattle.sheet_list.specs.Decimals.{Digit, value_from, value_of}
use Rattle.sheet_list.proofs.Inks.{digits_more}

-- ---- digits

digits_are : (f p n : ℕ) → Each Digit (digits_from f p n)
unfolding digits_from
digits_are zero p n = tt
digits_are (suc f) p n = go (ltb 0 p) (digits_are f (p / 10) n)
  where
    go : (t : Bool) → Each Digit (digits_from f (p / 10) n) → Each Digit (cond t ((48 + n / p % 10) ∷ digits_from f (p / 10) n) [])
    go true r = ((omega arith, omega arith), r)
    go false r = tt

pub decimal-digits : (n : ℕ) → Each Digit (decimal n)
unfolding decimal
decimal-digits n = digits_are 10 (top_from 9 1 n) n

-- ---- the power of the first digit

-- what is left of a number at a power is a tenth of what is left one power below
left_up : (n k : ℕ) → n / 10 ^ suc k ≡ n / 10 ^ k / 10
left_up n k = ap (λ (p : ℕ). n / p) (pow-suc 10 k) ∙ sym (div-div-eq-div-mul n (10 ^ k) 10)

-- at that power one digit is left, and it is 0 for 0 alone
record Top (n p : ℕ) : Type 0 where
  k : ℕ
  few : k ≤ 9
  is : p ≡ 10 ^ k
  one : n / 10 ^ k < 10
  some : n / 10 ^ k ≡ 0 → n ≡ 0

tops : (f k n : ℕ) → f + k ≡ 9 → n < 4294967296 → (n / 10 ^ k ≡ 0 → n ≡ 0) → Top n (top_from f (10 ^ k) n)
unfolding top_from
tops zero k n e h z = let q : 9 ≡ k = omega arith in record { k = k; few = omega arith; is = refl; one = subst (λ (j : ℕ). n / 10 ^ j < 10) q (omega arith); some = z }
tops (suc f) k n e h z = go (ltb (n / 10 ^ k) 10) refl (λ l. tops f (suc k) n (omega arith) h (λ q. absurd (omega (arith, left_up n k))))
  where
    go : (t : Bool) → ltb (n / 10 ^ k) 10 ≡ t → (10 ≤ n / 10 ^ k → Top n (top_from f (10 ^ suc k) n)) → Top n (cond t (10 ^ k) (top_from f (10 ^ k * 10) n))
    go true t up = record { k = k; few = omega arith; is = refl; one = ltb-true _ _ t; some = z }
    go false t up = rw (← pow-suc 10 k) (up (ltb-false _ _ t))

-- ---- the digits from a power down

module _ (n : ℕ) where
  digits_end : (f v : ℕ) → value_from v (digits_from f 0 n) ≡ v
  unfolding digits_from value_from
  digits_end zero v = refl
  digits_end (suc f) v = refl

  digits_next : (k f : ℕ) → digits_from (suc f) (10 ^ k) n ≡ (48 + n / 10 ^ k % 10) ∷ digits_from f (10 ^ k / 10) n
  digits_next k f = digits_more f (10 ^ k) n (one-le-pow k 10 (omega arith))

  digit_read : (k f : ℕ) → value_from (n / 10 ^ suc k) (digits_from (suc f) (10 ^ k) n) ≡ value_from (n / 10 ^ k) (digits_from f (10 ^ k / 10) n)
  unfolding value_from
  digit_read k f =
      let d : n / 10 ^ suc k * 10 + (48 + n / 10 ^ k % 10 - 48) ≡ n / 10 ^ k = omega (arith, left_up n k) in
      ap (value_from (n / 10 ^ suc k)) (digits_next k f) ∙ ap (λ (v : ℕ). value_from v (digits_from f (10 ^ k / 10) n)) d

  -- read on from what stands before them, they give the number
  digits_read : (k f : ℕ) → k < f → value_from (n / 10 ^ suc k) (digits_from f (10 ^ k) n) ≡ n
  digits_read k zero h = absurd (omega arith)
  digits_read zero (suc f) h = digit_read zero f ∙ rw (div-one n) (digits_end f n)
  digits_read (suc k) (suc f) h = let p : 10 ^ suc k / 10 ≡ 10 ^ k = omega (arith, pow-suc 10 k) in digit_read (suc k) f ∙ rw p (digits_read k f (omega arith))

-- ---- the text of a word

module _ (n : ℕ) (h : n < 4294967296) where
  start : Top n (top_from 9 1 n)
  start = tops 9 0 n refl h (λ z. omega arith)

  pub decimal-value : value_of (decimal n) ≡ n
  unfolding decimal
  decimal-value =
      let t = start in
      let z : n / 10 ^ suc t.k ≡ 0 = omega (arith, left_up n t.k) in
      rw (t.is, ← z) (digits_read n t.k 10 (omega arith))

  -- the text of a number other than 0 has a first byte, and it is not `0`
  pub decimal-first : get_or (decimal n) 0 48 ≡ 48 → n ≡ 0
  unfolding decimal
  decimal-first e =
      let t = start in
      let d : get_or (decimal n) 0 48 ≡ 48 + n / 10 ^ t.k % 10 = rw (t.is, digits_next n t.k 9) in
      t.some (omega arith)

pub decimal-zero : decimal 0 ≡ 48 ∷ []
unfolding decimal digits_from top_from
decimal-zero = refl

-- two words of one text are equal
pub one-decimal : (text : List ℕ) → One ℕ (λ n. (n < 4294967296) × (decimal n ≡ text))
one-decimal text m n p q = sym (decimal-value m p.0) ∙ ap value_of (p.1 ∙ sym q.1) ∙ decimal-value n q.0
