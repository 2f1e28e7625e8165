-- Digits, numbers and lines written one after the other.
use mathlib.Core.Path.{◌≡◌, sym, ap, ◌∙◌}
use mathlib.Core.List.{List, [], ◌∷◌, ◌++◌}
use Prim.Native.Nat.{ℕ, suc, ◌+◌, ◌-◌, ◌*◌, ◌/◌, ◌%◌, ◌≤◌, ◌<◌}
use native.Mathlib.Omega.{arith}
use native.Mathlib.Numerals.{add-one}
use lib.ListN.{length, get_or, set, get_or-eq_default}
use lib.Seq.{sets}
use borrow.Author.Tests.{lt-ltb, le-ltb}
use Rattle.path.specs.Strokes.{gather}
use Rattle.path.specs.Courses.{Course, course, advanced}
use Rattle.path.proofs.Points.{numbers-lie}
use Rattle.path.proofs.Pushes.{ink_none, ink_append}
use Rattle.path.proofs.Gathers.{gather-more, gather_none, length-gather}
use Rattle.sheet_list.specs.Listing.{top_from, digits_from, decimal, spaced, line_of, refused_text}
use Rattle.byte_words.specs.Bytes.{bytes_of}

-- one byte, and those after it
pub ink_more : (b : List ℕ) (k x : ℕ) (xs : List ℕ) → advanced sets (course (set b k x) (k + 1)) xs ≡ advanced sets (course b k) (x ∷ xs)
unfolding advanced
ink_more b k x xs = let e : k + suc (length xs) ≡ k + 1 + length xs = omega arith in rw (e, add-one k)

pub ink_two : (b : List ℕ) (k : ℕ) (a d : List ℕ) {b' : List ℕ} {k' : ℕ} → course b' k' ≡ advanced sets (course b k) a → advanced sets (course b' k') d ≡ advanced sets (course b k) (a ++ d)
ink_two b k a d e = ap (λ (p : Course ℕ). advanced sets p d) e ∙ ink_append numbers-lie (course b k) a d

-- the power of ten, one step up
module _ (f p n : ℕ) where
  pub top-here : n / p < 10 → top_from (suc f) p n ≡ p
  unfolding top_from
  top-here h = rw (lt-ltb (n / p) 10 h)

  pub top_up : 10 ≤ n / p → top_from (suc f) p n ≡ top_from f (p * 10) n
  unfolding top_from
  top_up h = rw (le-ltb (n / p) 10 h)

  pub digits_none : p ≡ 0 → digits_from (suc f) p n ≡ []
  unfolding digits_from
  digits_none e = rw e

  pub digits_more : 0 < p → digits_from (suc f) p n ≡ (48 + n / p % 10) ∷ digits_from f (p / 10) n
  unfolding digits_from
  digits_more h = rw (lt-ltb 0 p h)

-- the loops' turns
module _ (i p n t : ℕ) where
  pub top-turn : i < 9 → 10 ≤ n / p → top_from (9 - i) p n ≡ t → top_from (9 - (i + 1)) (p * 10) n ≡ t
  top-turn h k e =
      let s : 9 - i ≡ suc (9 - (i + 1)) = omega arith in
      sym (top_up (9 - (i + 1)) p n k) ∙ ap (λ (f : ℕ). top_from f p n) (sym s) ∙ e

  pub top-end : i < 9 → n / p < 10 → top_from (9 - i) p n ≡ t → p ≡ t
  top-end h k e =
      let s : 9 - i ≡ suc (9 - (i + 1)) = omega arith in
      sym (top-here (9 - (i + 1)) p n k) ∙ ap (λ (f : ℕ). top_from f p n) (sym s) ∙ e

  pub top-all : 9 ≤ i → top_from (9 - i) p n ≡ t → p ≡ t
  unfolding top_from
  top-all h e = let s : 9 - i ≡ 0 = omega arith in ap (λ (f : ℕ). top_from f p n) (sym s) ∙ e

pub above : (p : ℕ) → (p ≡ 0 → ⊥) → 0 < p
above p h = omega arith

module _ (b : List ℕ) (k i p n : ℕ) {all : Course ℕ} (inv : advanced sets (course b k) (digits_from (10 - i) p n) ≡ all) where
  pub digit_turn : i < 10 → 0 < p → (b' : List ℕ) → b' ≡ set b k (48 + n / p % 10) → advanced sets (course b' (k + 1)) (digits_from (10 - (i + 1)) (p / 10) n) ≡ all
  digit_turn h l b' e =
      let s : 10 - i ≡ suc (10 - (i + 1)) = omega arith in
      let r = digits_from (10 - (i + 1)) (p / 10) n in
      ap (λ (x : List ℕ). advanced sets (course x (k + 1)) r) e ∙ ink_more b k (48 + n / p % 10) r
      ∙ ap (advanced sets (course b k)) (sym (digits_more (10 - (i + 1)) p n l) ∙ ap (λ (f : ℕ). digits_from f p n) (sym s)) ∙ inv

  pub digit_stop : i < 10 → p ≡ 0 → course b k ≡ all
  digit_stop h z =
      let s : 10 - i ≡ suc (10 - (i + 1)) = omega arith in
      sym (ink_none numbers-lie (course b k)) ∙ ap (advanced sets (course b k)) (sym (digits_none (10 - (i + 1)) p n z) ∙ ap (λ (f : ℕ). digits_from f p n) (sym s)) ∙ inv

  pub digit_end : 10 ≤ i → course b k ≡ all
  unfolding digits_from
  digit_end h =
      let s : 10 - i ≡ 0 = omega arith in
      sym (ink_none numbers-lie (course b k)) ∙ ap (λ (f : ℕ). advanced sets (course b k) (digits_from f p n)) (sym s) ∙ inv

-- numbers after spaces
module _ (at : ℕ → ℕ) (b : List ℕ) (k i e : ℕ) {all : Course ℕ} (inv : advanced sets (course b k) (spaced (gather at i (e - i))) ≡ all) where
  pub space_turn : i < e → (b₁ b₂ : List ℕ) (k₂ x : ℕ) → b₁ ≡ set b k 32 → x ≡ at i → course b₂ k₂ ≡ advanced sets (course b₁ (k + 1)) (decimal x)
      → advanced sets (course b₂ k₂) (spaced (gather at (i + 1) (e - (i + 1)))) ≡ all
  unfolding spaced
  space_turn h b₁ b₂ k₂ x e₁ ex e₂ =
      let r = spaced (gather at (i + 1) (e - (i + 1))) in
      ink_two b₁ (k + 1) (decimal x) r e₂ ∙ ap (λ (y : List ℕ). advanced sets (course y (k + 1)) (decimal x ++ r)) e₁ ∙ ink_more b k 32 (decimal x ++ r)
      ∙ ap (λ (y : ℕ). advanced sets (course b k) (32 ∷ decimal y ++ r)) ex ∙ ap (λ (l : List ℕ). advanced sets (course b k) (spaced l)) (sym (gather-more at i e h)) ∙ inv

  pub space_end : e ≤ i → course b k ≡ all
  unfolding spaced
  space_end h = sym (ink_none numbers-lie (course b k)) ∙ ap (λ (l : List ℕ). advanced sets (course b k) (spaced l)) (sym (gather_none at i e h)) ∙ inv

-- a line
module _ (at : ℕ → ℕ) (b : List ℕ) (k a e : ℕ) where
  pub line-none : e ≤ a → (b' : List ℕ) → b' ≡ set b k 10 → course b' (k + 1) ≡ advanced sets (course b k) (line_of (gather at a (e - a)))
  unfolding line_of
  line-none h b' q = ap (λ (x : List ℕ). course x (k + 1)) q ∙ sym (ink_none numbers-lie (course (set b k 10) (k + 1))) ∙ ink_more b k 10 [] ∙ ap (λ (l : List ℕ). advanced sets (course b k) (line_of l)) (sym (gather_none at a e h))

  pub line-some : a < e → (x : ℕ) → x ≡ at a → (b₁ b₂ b₃ : List ℕ) (k₁ k₂ : ℕ) → course b₁ k₁ ≡ advanced sets (course b k) (decimal x)
      → course b₂ k₂ ≡ advanced sets (course b₁ k₁) (spaced (gather at (a + 1) (e - (a + 1)))) → b₃ ≡ set b₂ k₂ 10
      → course b₃ (k₂ + 1) ≡ advanced sets (course b k) (line_of (gather at a (e - a)))
  unfolding line_of
  line-some h x ex b₁ b₂ b₃ k₁ k₂ e₁ e₂ e₃ =
      let s = spaced (gather at (a + 1) (e - (a + 1))) in
      ap (λ (y : List ℕ). course y (k₂ + 1)) e₃ ∙ sym (ink_none numbers-lie (course (set b₂ k₂ 10) (k₂ + 1))) ∙ ink_more b₂ k₂ 10 [] ∙ ink_two b₁ k₁ s (10 ∷ []) e₂ ∙ ink_two b k (decimal x) (s ++ 10 ∷ []) e₁
      ∙ ap (λ (y : ℕ). advanced sets (course b k) (decimal y ++ (s ++ 10 ∷ []))) ex ∙ ap (λ (l : List ℕ). advanced sets (course b k) (line_of l)) (sym (gather-more at a e h))

-- past the last start
pub start_past : (at : ℕ → ℕ) (a n i d : ℕ) → n ≤ i → d ≡ get_or (gather at a n) i d
start_past at a n i d h = sym (get_or-eq_default (gather at a n) d (omega (arith, length-gather at a n)))

eight : (b b₁ b₂ : List ℕ) → b₁ ≡ sets b 0 (bytes_of 1969644914) → b₂ ≡ sets b₁ 4 (bytes_of 543450483) → course b₂ 8 ≡ advanced sets (course b 0) (114 ∷ 101 ∷ 102 ∷ 117 ∷ 115 ∷ 101 ∷ 100 ∷ 32 ∷ [])
unfolding bytes_of advanced
eight b b₁ b₂ e₁ e₂ = rw (e₂, e₁)

-- `refused ` as two words, the number, and a newline
pub refused-put : (b : List ℕ) (n : ℕ) (b₁ b₂ b₃ b₄ : List ℕ) (k : ℕ) → b₁ ≡ sets b 0 (bytes_of 1969644914) → b₂ ≡ sets b₁ 4 (bytes_of 543450483) → course b₃ k ≡ advanced sets (course b₂ 8) (decimal n) → b₄ ≡ set b₃ k 10
    → course b₄ (k + 1) ≡ advanced sets (course b 0) (refused_text n)
unfolding bytes_of refused_text line_of spaced
refused-put b n b₁ b₂ b₃ b₄ k e₁ e₂ e₃ e₄ =
    let said : List ℕ = 114 ∷ 101 ∷ 102 ∷ 117 ∷ 115 ∷ 101 ∷ 100 ∷ 32 ∷ [] in
    let e : course b₂ 8 ≡ advanced sets (course b 0) said = eight b b₁ b₂ e₁ e₂ in
    ap (λ (x : List ℕ). course x (k + 1)) e₄ ∙ sym (ink_none numbers-lie (course (set b₃ k 10) (k + 1))) ∙ ink_more b₃ k 10 [] ∙ ink_two b₂ 8 (decimal n) (10 ∷ []) e₃ ∙ ink_two b 0 said (decimal n ++ 10 ∷ []) e
