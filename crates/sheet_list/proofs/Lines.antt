-- The lines of the strokes, and how long a text is.
use mathlib.Core.Path.{◌≡◌, refl, sym, ap, ◌∙◌}
use mathlib.Core.Bool.{Bool, true, false, cond}
use mathlib.Core.List.{List, [], ◌∷◌, ◌++◌, map}
use Prim.Native.Nat.{ℕ, zero, suc, ◌+◌, ◌-◌, ◌*◌, ◌/◌, ◌%◌, ◌≤◌, ◌<◌}
use native.Mathlib.Omega.{arith}
use lib.ListN.{length, get_or, drop, length-append}
use lib.Seq.{sets}
use lib.Dec.{ltb, eqb}
use borrow.Author.Tests.{eqb-true, le-leb, lt-leb}
use Rattle.refusal.specs.Limits.{most_strokes}
use Rattle.refusal.specs.declared.Refusal.TheVariants.{Count, Sheet}
use Rattle.refusal.specs.Refusals.{number_of}
use Rattle.path.specs.Strokes.{good_from, good_starts, gather, strokes_of, number_at, strokes_in}
use Rattle.path.specs.Laid.{joined}
use Rattle.path.specs.Courses.{Course, course, advanced}
use Rattle.path.proofs.Tests.{both}
use Rattle.path.proofs.Starts.{get_d_any, table_next}
use Rattle.path.proofs.Pushes.{ink_none, ink_place}
use Rattle.path.proofs.Points.{numbers-lie}
use Rattle.path.proofs.Gathers.{length-gather, strokes_more, strokes_none, gather-at}
use Rattle.sheet.specs.Sheets.{mode_place, starts_offset, header_words, numbers_from, word_at, mode_in, vertices_in, stroke_count, point_count, starts_in, numbers_in, is_sheet}
use Rattle.sheet.proofs.Sizes.{limits}
use Rattle.path.proofs.Again.{joined-all, strokes_count}
use Rattle.sheet.proofs.Tables.{table_good_lem}
use Rattle.sheet.proofs.Back.{gather-same, tested}
use Rattle.sheet_list.specs.Listing.{digits_from, decimal, spaced, line_of, lines_of, listed, refused_text, most_bytes, most_text, text_of}
use Rattle.sheet_list.specs.InnerLines.{number_in, numbers_at}
use Rattle.sheet_list.proofs.Inks.{ink_two}

-- the numbers of a stroke, counted from the first number and from the first word
gather-shift : (f : ℕ → ℕ) (b a n : ℕ) → gather f (b + a) n ≡ gather (λ k. f (b + k)) a n
unfolding gather
gather-shift f b a zero = refl
gather-shift f b a (suc n) = let e : b + a + 1 ≡ b + (a + 1) = omega arith in rw (e, gather-shift f b (a + 1) n)

pub numbers-are : (bs : List ℕ) (strokes k a e x y : ℕ) → k ≡ numbers_from strokes → x ≡ a → y ≡ e → gather (word_at bs) (k + x) (k + y - (k + x)) ≡ numbers_at bs strokes a e
numbers-are bs strokes k a e x y ek ex ey =
    let n : k + y - (k + x) ≡ y - x = omega arith in
    rw n (gather-shift (word_at bs) k x (y - x) ∙ rw (ek, ex, ey))

-- one stroke's line, and those after it
module _ (num : ℕ → ℕ) (n : ℕ) (ss : List ℕ) (b : List ℕ) (k i : ℕ) {all : Course ℕ} (inv : advanced sets (course b k) (lines_of (strokes_of num n (drop i ss))) ≡ all) where
  pub stroke_turn : i < length ss → (b' : List ℕ) (k' : ℕ) → course b' k' ≡ advanced sets (course b k) (line_of (gather num (get_or ss i n) (get_or ss (i + 1) n - get_or ss i n)))
      → advanced sets (course b' k') (lines_of (strokes_of num n (drop (i + 1) ss))) ≡ all
  unfolding joined
  stroke_turn h b' k' e =
      let line = line_of (gather num (get_or ss i n) (get_or ss (i + 1) n - get_or ss i n)) in
      let g : map line_of (strokes_of num n (drop i ss)) ≡ line ∷ map line_of (strokes_of num n (drop (i + 1) ss)) = rw (get_d_any ss i n 0 h) (strokes_more line_of num n ss i (get_or ss (i + 1) n) h refl) in
      ink_two b k line (lines_of (strokes_of num n (drop (i + 1) ss))) e ∙ ap (λ (l : List (List ℕ)). advanced sets (course b k) (joined l)) (sym g) ∙ inv

  pub stroke_end : length ss ≤ i → course b k ≡ all
  unfolding joined
  stroke_end h = sym (ink_none numbers-lie (course b k)) ∙ ap (λ (l : List (List ℕ)). advanced sets (course b k) (joined l)) (sym (strokes_none line_of num n ss i h)) ∙ inv

-- strokes of numbers that agree below n
strokes_same : (f g : ℕ → ℕ) (n s : ℕ) (ss : List ℕ) → ((k : ℕ) → k < n → f k ≡ g k) → s ≤ n → good_from n s ss ≡ true → strokes_of f n (s ∷ ss) ≡ strokes_of g n (s ∷ ss)
unfolding strokes_of
strokes_same f g n s [] h l t = rw (gather-same f g s (n - s) (λ k m. h k (omega arith)))
strokes_same f g n s (u ∷ ss) h l t =
    let q = table_next n s u ss t in
    let a = q.0 in
    let b = q.1 in
    rw (gather-same f g s (u - s) (λ k m. h k (omega arith)), strokes_same f g n u ss h b q.2)

same-strokes : (f g : ℕ → ℕ) (n : ℕ) (ss : List ℕ) → ((k : ℕ) → k < n → f k ≡ g k) → good_starts n ss ≡ true → strokes_of f n ss ≡ strokes_of g n ss
unfolding strokes_of good_starts
same-strokes f g n [] h t = refl
same-strokes f g n (s ∷ ss) h t =
    let b = both (eqb s 0) (good_from n s ss) t in
    let z = eqb-true s 0 b.0 in
    strokes_same f g n s ss h (omega arith) b.1

module _ (bs : List ℕ) (h : is_sheet bs ≡ true) where
  numbers-count : length (numbers_in bs) ≡ point_count bs
  unfolding numbers_in
  numbers-count = length-gather (word_at bs) (numbers_from (stroke_count bs)) (point_count bs)

  starts_count : length (starts_in bs) ≡ stroke_count bs
  unfolding starts_in
  starts_count = length-gather (word_at bs) header_words (stroke_count bs)

  good : good_starts (point_count bs) (starts_in bs) ≡ true
  good = (table_good_lem (point_count bs) (starts_in bs) (tested bs h).table).0

  pub strokes_are : strokes_of (number_in bs (stroke_count bs)) (point_count bs) (starts_in bs) ≡ strokes_in (numbers_in bs) (starts_in bs)
  unfolding numbers_in
  strokes_are =
      let g : (k : ℕ) → k < point_count bs → number_in bs (stroke_count bs) k ≡ number_at (numbers_in bs) k = λ k l. gather-at (word_at bs) (numbers_from (stroke_count bs)) (point_count bs) k 0 l in
      same-strokes (number_in bs (stroke_count bs)) (number_at (numbers_in bs)) (point_count bs) (starts_in bs) g good ∙ ap (λ (n : ℕ). strokes_of (number_at (numbers_in bs)) n (starts_in bs)) (sym numbers-count)

-- ---- how long

digits_size : (f p n : ℕ) → length (digits_from f p n) ≤ f
unfolding digits_from
digits_size zero p n = omega arith
digits_size (suc f) p n = go (ltb 0 p) (digits_size f (p / 10) n)
  where
    go : (t : Bool) → length (digits_from f (p / 10) n) ≤ f → length (cond t ((48 + n / p % 10) ∷ digits_from f (p / 10) n) []) ≤ suc f
    go true r = omega arith
    go false r = omega arith

decimal-size : (n : ℕ) → length (decimal n) ≤ 10
unfolding decimal
decimal-size n = digits_size 10 _ n

spaced-size : (xs : List ℕ) → length (spaced xs) ≤ 11 * length xs
unfolding spaced
spaced-size [] = omega arith
spaced-size (x ∷ xs) = let r = spaced-size xs in let d = decimal-size x in omega (arith, length-append (decimal x) (spaced xs))

line-size : (xs : List ℕ) → length (line_of xs) ≤ 11 * length xs + 1
unfolding line_of
line-size [] = omega arith
line-size (x ∷ xs) =
    let r = spaced-size xs in
    let d = decimal-size x in
    omega (arith, length-append (decimal x) (spaced xs ++ 10 ∷ []), length-append (spaced xs) (10 ∷ []))

lines_size : (ss : List (List ℕ)) → length (lines_of ss) ≤ 11 * length (joined ss) + length ss
unfolding joined
lines_size [] = omega arith
lines_size (s ∷ ss) =
    let r = lines_size ss in
    let l = line-size s in
    omega (arith, length-append (line_of s) (lines_of ss), length-append s (joined ss))

pub listed-size : (bs : List ℕ) → is_sheet bs ≡ true → length bs ≤ most_bytes → length (listed bs) ≤ most_text
unfolding listed
listed-size bs h l =
    let t = (tested bs h).size in
    let ns = numbers_in bs in
    let ss = starts_in bs in
    let n = numbers-count bs h in
    let g : good_starts (length ns) ss ≡ true = rw n (good bs h) in
    let j = ap length (joined-all ns ss g) in
    let c = strokes_count (number_at ns) (length ns) ss in
    let k = starts_count bs h in
    let r = lines_size (strokes_in ns ss) in
    let first = line-size (mode_in bs ∷ vertices_in bs ∷ stroke_count bs ∷ point_count bs ∷ []) in
    omega (arith, length-append (line_of (mode_in bs ∷ vertices_in bs ∷ stroke_count bs ∷ point_count bs ∷ [])) (lines_of (strokes_in ns ss)))

pub refused-size : (n : ℕ) → length (refused_text n) ≤ most_text
unfolding refused_text
refused-size n = let l = line-size (n ∷ []) in omega arith

-- ---- the call

-- the lines of all strokes after line one
pub listed-put : (bs b : List ℕ) → is_sheet bs ≡ true → (s p : ℕ) → s ≡ stroke_count bs → p ≡ point_count bs → (b₁ b₂ : List ℕ) (k₁ k₂ : ℕ) → course b₁ k₁ ≡ advanced sets (course b 0) (line_of (gather (word_at bs) mode_place starts_offset))
    → course b₂ k₂ ≡ advanced sets (course b₁ k₁) (lines_of (strokes_of (number_in bs s) p (gather (word_at bs) header_words s))) → course b₂ k₂ ≡ advanced sets (course b 0) (listed bs)
unfolding listed gather starts_in
listed-put bs b h s p es ep b₁ b₂ k₁ k₂ e₁ e₂ =
    let g : strokes_of (number_in bs s) p (gather (word_at bs) header_words s) ≡ strokes_in (numbers_in bs) (starts_in bs) = rw (es, ep) (strokes_are bs h) in
    e₂ ∙ ap (λ (l : List (List ℕ)). advanced sets (course b₁ k₁) (lines_of l)) g ∙ ink_two b 0 _ _ e₁

-- how long what is written is
pub long : (b : List ℕ) (t : List ℕ) {b' : List ℕ} {k : ℕ} → course b' k ≡ advanced sets (course b 0) t → length t ≤ most_text → k ≤ most_text
long b t e h = omega (arith, ink_place sets (course b 0) t e)

module _ (bs : List ℕ) where
  pub text_long : most_bytes < length bs → text_of bs ≡ refused_text (number_of Count)
  unfolding text_of
  text_long h = rw (lt-leb (length bs) most_bytes h)

  pub text_none : length bs ≤ most_bytes → is_sheet bs ≡ false → text_of bs ≡ refused_text (number_of Sheet)
  unfolding text_of
  text_none h e = rw (le-leb (length bs) most_bytes h, e)

  pub text_some : length bs ≤ most_bytes → is_sheet bs ≡ true → text_of bs ≡ listed bs
  unfolding text_of
  text_some h e = rw (le-leb (length bs) most_bytes h, e)

-- the two returns
pub text_is : (b t u : List ℕ) {b' : List ℕ} {k : ℕ} → course b' k ≡ advanced sets (course b 0) t → u ≡ t → length t ≤ most_text → (course b' k ≡ advanced sets (course b 0) u) × (k ≤ most_text)
text_is b t u e q h = (e ∙ ap (advanced sets (course b 0)) (sym q), long b t e h)

-- the number in a refusal is the code's
pub same-refusal : (b : List ℕ) (n m : ℕ) {b' : List ℕ} {k : ℕ} → course b' k ≡ advanced sets (course b 0) (refused_text n) → n ≡ m → course b' k ≡ advanced sets (course b 0) (refused_text m)
same-refusal b n m e q = e ∙ ap (λ (x : ℕ). advanced sets (course b 0) (refused_text x)) q

pub few_strokes : (bs : List ℕ) → is_sheet bs ≡ true → stroke_count bs ≤ most_strokes
few_strokes bs h = (limits (vertices_in bs) (stroke_count bs) (point_count bs) (tested bs h).counts).0
