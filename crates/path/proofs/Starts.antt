-- Laws of a start table, read from the front.
use mathlib.Core.Path.{◌≡◌, refl}
use mathlib.Core.Bool.{true, false, ◌&&◌}
use mathlib.Core.List.{List, [], ◌∷◌}
use Prim.Native.Nat.{ℕ, zero, suc, ◌+◌, ◌≤◌, ◌<◌}
use native.Mathlib.Omega.{arith}
use native.Mathlib.Numerals.{add-one}
use lib.ListN.{length, get_or, drop, drop_of_length-le}
use lib.Seq.{drop-cons}
use lib.Dec.{leb, eqb}
use borrow.Author.Tests.{le-leb, lt-leb, eq-eqb, ne_eqb, leb-true}
use Rattle.path.specs.Strokes.{good_from, good_starts}
use Rattle.path.proofs.Tests.{both}

pub good_none : (n : ℕ) (ss : List ℕ) → length ss ≡ 0 → good_starts n ss ≡ eqb n 0
unfolding good_starts
good_none n [] h = refl
good_none n (s ∷ ss) h = absurd (omega arith)

pub good-first : (n : ℕ) (ss : List ℕ) → 0 < length ss → (get_or ss 0 0 ≡ 0 → ⊥) → good_starts n ss ≡ false
unfolding good_starts
good-first n [] h z = absurd (omega arith)
good-first n (s ∷ ss) h z = rw (ne_eqb s 0 z)

pub good_start : (n : ℕ) (ss : List ℕ) → 0 < length ss → get_or ss 0 0 ≡ 0 → good_from n 0 (drop 1 ss) ≡ good_starts n ss
unfolding good_starts
good_start n [] h e = absurd (omega arith)
good_start n (s ∷ ss) h e = rw (eq-eqb s 0 e, e)

module _ (n prev : ℕ) (ss : List ℕ) (i : ℕ) where
  pub good-end : length ss ≤ i → good_from n prev (drop i ss) ≡ true
  unfolding good_from
  good-end h = rw (drop_of_length-le ss h)

  pub good-fall : i < length ss → get_or ss i 0 < prev → good_from n prev (drop i ss) ≡ false
  unfolding good_from
  good-fall h f = rw (drop-cons ss i 0 h, lt-leb prev (get_or ss i 0) f)

  pub good-past : i < length ss → prev ≤ get_or ss i 0 → n < get_or ss i 0 → good_from n prev (drop i ss) ≡ false
  unfolding good_from
  good-past h f g = rw (drop-cons ss i 0 h, le-leb prev (get_or ss i 0) f, lt-leb (get_or ss i 0) n g)

  pub good_turn : i < length ss → prev ≤ get_or ss i 0 → get_or ss i 0 ≤ n → good_from n (get_or ss i 0) (drop (i + 1) ss) ≡ good_from n prev (drop i ss)
  unfolding good_from
  good_turn h f g = rw (drop-cons ss i 0 h, le-leb prev (get_or ss i 0) f, le-leb (get_or ss i 0) n g, add-one)

-- an element within does not turn on the default
pub get_d_any : {A : Type 0} (l : List A) (i : ℕ) (x y : A) → i < length l → get_or l i x ≡ get_or l i y
get_d_any [] i x y h = absurd (omega arith)
get_d_any (a ∷ l) zero x y h = refl
get_d_any (a ∷ l) (suc i) x y h = get_d_any l i x y (omega arith)

-- what holds of a table, at its second start
pub table_next : (n s t : ℕ) (ss : List ℕ) → good_from n s (t ∷ ss) ≡ true → (s ≤ t) × (t ≤ n) × (good_from n t ss ≡ true)
unfolding good_from
table_next n s t ss g =
    let b = both (leb s t && leb t n) (good_from n t ss) g in
    let d = both (leb s t) (leb t n) b.0 in
    (leb-true s t d.0, leb-true t n d.1, b.1)
