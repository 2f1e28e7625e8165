-- The loops over the starts that are written.
use mathlib.Core.Path.{◌≡◌, refl, ap}
use mathlib.Core.Bool.{true, false}
use mathlib.Core.List.{List, [], ◌∷◌, ◌++◌}
use Prim.Native.Nat.{ℕ, ◌+◌, ◌*◌, ◌≤◌, ◌<◌}
use native.Mathlib.Omega.{arith}
use native.Mathlib.Numerals.{add-one}
use native.Mathlib.Nat.{add-zero}
use lib.ListN.{length, get_or, drop, drop_of_length-le, length-append}
use lib.Seq.{sets, drop-cons, get_or-drop}
use lib.Dec.{ltb}
use Rattle.byte_words.specs.Bytes.{bytes_of, bytes_all}
use Rattle.sheet.specs.Sheets.{header_words, numbers_from, header_of}
use Rattle.byte_words.proofs.Words.{put_one, put-none}
use Rattle.sheet.proofs.Words.{put-more}
use Rattle.sheet.specs.InnerKept.{kept_at, kept_from}

-- one stroke
module _ (n : ℕ) (ss : List ℕ) (i : ℕ) where
  pub at_some : ltb (get_or ss i 0) (get_or ss (i + 1) n) ≡ true → kept_at n ss i ≡ get_or ss i 0 ∷ []
  unfolding kept_at
  at_some h = rw h

  pub at_none : ltb (get_or ss i 0) (get_or ss (i + 1) n) ≡ false → kept_at n ss i ≡ []
  unfolding kept_at
  at_none h = rw h

  -- the strokes from the i-th on
  pub kept-turn : i < length ss → kept_from n (drop i ss) ≡ kept_at n ss i ++ kept_from n (drop (i + 1) ss)
  unfolding kept_from kept_at
  kept-turn h = rw (drop-cons ss i 0 h, get_or-drop, add-zero, add-one)

  pub kept-end : length ss ≤ i → kept_from n (drop i ss) ≡ []
  unfolding kept_from
  kept-end h = rw (drop_of_length-le ss h)

  pub count_turn : i < length ss → (k r all : ℕ) → r ≡ length (kept_at n ss i) → k + length (kept_from n (drop i ss)) ≡ all → k + r + length (kept_from n (drop (i + 1) ss)) ≡ all
  count_turn h k r all e g = omega (arith, ap length (kept-turn h), length-append (kept_at n ss i) (kept_from n (drop (i + 1) ss)))

  pub place_turn : i < length ss → (k r all : ℕ) → r ≡ k + length (kept_at n ss i) → k + length (kept_from n (drop i ss)) ≡ all → r + length (kept_from n (drop (i + 1) ss)) ≡ all
  place_turn h k r all e g = omega (arith, count_turn h k (length (kept_at n ss i)) all refl g)

  pub count-end : length ss ≤ i → (k all : ℕ) → k + length (kept_from n (drop i ss)) ≡ all → k ≡ all
  count-end h k all g = omega (arith, ap length (kept-end h))

  pub put-turn : i < length ss → (l m : List ℕ) (k r : ℕ) → m ≡ sets l (k * 4) (bytes_all (kept_at n ss i)) → r ≡ k + length (kept_at n ss i)
      → sets m (r * 4) (bytes_all (kept_from n (drop (i + 1) ss))) ≡ sets l (k * 4) (bytes_all (kept_from n (drop i ss)))
  put-turn h l m k r e g = rw (kept-turn h, e, g) (put-more l k (kept_at n ss i) (kept_from n (drop (i + 1) ss)))

  pub put-end : length ss ≤ i → (l : List ℕ) (k : ℕ) → sets l k (bytes_all (kept_from n (drop i ss))) ≡ l
  put-end h l k = rw (kept-end h) (put-none l k)

-- numbers one after the other
pub number_turn : (ns : List ℕ) (i : ℕ) → i < length ns → (l m : List ℕ) (k : ℕ) → m ≡ sets l ((k + i) * 4) (bytes_of (get_or ns i 0))
    → sets m ((k + (i + 1)) * 4) (bytes_all (drop (i + 1) ns)) ≡ sets l ((k + i) * 4) (bytes_all (drop i ns))
number_turn ns i h l m k e =
    let a : k + (i + 1) ≡ k + i + 1 = omega arith in
    let b : drop i ns ≡ (get_or ns i 0 ∷ []) ++ drop (i + 1) ns = rw (drop-cons ns i 0 h, add-one) in
    rw (b, e, a, put_one) (put-more l (k + i) (get_or ns i 0 ∷ []) (drop (i + 1) ns))

pub number_end : (ns : List ℕ) (i : ℕ) → length ns ≤ i → (l : List ℕ) (k : ℕ) → sets l k (bytes_all (drop i ns)) ≡ l
number_end ns i h l k = rw (drop_of_length-le ns h) (put-none l k)

-- the words of the header one after the other
pub header_put : (l : List ℕ) (m v s p o : ℕ) → o ≡ 4 * numbers_from s → (l₁ l₂ l₃ l₄ l₅ l₆ : List ℕ)
    → l₁ ≡ sets l 0 (bytes_of m) → l₂ ≡ sets l₁ 4 (bytes_of v) → l₃ ≡ sets l₂ 8 (bytes_of s) → l₄ ≡ sets l₃ 12 (bytes_of p) → l₅ ≡ sets l₄ 16 (bytes_of (4 * header_words)) → l₆ ≡ sets l₅ 20 (bytes_of o)
    → l₆ ≡ sets l 0 (bytes_all (header_of m v s p))
unfolding bytes_all bytes_of header_of
header_put l m v s p o q l₁ l₂ l₃ l₄ l₅ l₆ e₁ e₂ e₃ e₄ e₅ e₆ = rw (e₆, e₅, e₄, e₃, e₂, e₁, q)
