-- Strokes are read back from their elements in a row and their starts, whatever the elements are.
use mathlib.Core.Path.{◌≡◌, refl, sym, ap, ◌∙◌}
use mathlib.Core.Bool.{true}
use mathlib.Core.List.{List, [], ◌∷◌, ◌++◌, append-nil}
use Prim.Native.Nat.{ℕ, zero, suc, ◌+◌, ◌-◌, ◌≤◌}
use native.Mathlib.Omega.{arith}
use native.Mathlib.Nat.{add-zero}
use lib.ListN.{length, get_or, take, drop, length-append}
use lib.Dec.{eqb}
use lib.Seq.{take_all, take_at, drop_at}
use borrow.Author.Tests.{eqb-true}
use Rattle.path.specs.Strokes.{good_from, good_starts, gather, strokes_of, number_at}
use Rattle.path.specs.Laid.{over, joined, starts_from}
use Rattle.path.proofs.Gathers.{length-gather, gather-drop}
use Rattle.path.proofs.Pushes.{length-starts}
use Rattle.path.proofs.Starts.{table_next}
use Rattle.path.proofs.Tests.{both}

module _ {A : Type 0} (at : ℕ → A) where
  pub gather-add : (a n m : ℕ) → gather at a (n + m) ≡ gather at a n ++ gather at (a + n) m
  unfolding gather
  gather-add a zero m = let e : 0 + m ≡ m = omega arith in rw (e, add-zero)
  gather-add a (suc n) m =
      let e : suc n + m ≡ suc (n + m) = omega arith in
      let f : a + suc n ≡ a + 1 + n = omega arith in
      rw (e, f, gather-add (a + 1) n m)

  pub strokes_count : (n : ℕ) (ss : List ℕ) → length (strokes_of at n ss) ≡ length ss
  unfolding strokes_of
  strokes_count n [] = refl
  strokes_count n (s ∷ ss) = ap suc (strokes_count n ss)

  -- the strokes of a table are its elements in a row
  pub joined-from : (n s : ℕ) (ss : List ℕ) → s ≤ n → good_from n s ss ≡ true → joined (strokes_of at n (s ∷ ss)) ≡ gather at s (n - s)
  unfolding joined strokes_of
  joined-from n s [] h g = append-nil _
  joined-from n s (t ∷ ss) h g =
      let k = table_next n s t ss g in
      let e : n - s ≡ t - s + (n - t) = omega (arith, k.0, k.1) in
      let f : s + (t - s) ≡ t = omega (arith, k.0) in
      let r = joined-from n t ss k.1 k.2 in
      ap (λ (l : List A). gather at s (t - s) ++ l) r ∙ sym (ap (gather at s) e ∙ gather-add s (t - s) (n - t) ∙ ap (λ (x : ℕ). gather at s (t - s) ++ gather at x (n - t)) f)

  -- a good table has all elements in its strokes
  pub table_all : (n : ℕ) (ss : List ℕ) → good_starts n ss ≡ true → length (joined (strokes_of at n ss)) ≡ n
  unfolding good_starts strokes_of joined
  table_all n [] g = sym (eqb-true n 0 g)
  table_all n (s ∷ ss) g =
      let b = both (eqb s 0) (good_from n s ss) g in
      let z = eqb-true s 0 b.0 in
      omega (arith, ap length (joined-from n s ss (omega arith) b.1), length-gather at s (n - s))

  next_start : (a n : ℕ) (x : List A) (xs : List (List A)) → n ≡ a + length (joined (x ∷ xs)) → get_or (starts_from (a + length x) xs) 0 n ≡ a + length x
  unfolding starts_from joined
  next_start a n x [] e = omega (arith, length-append x [])
  next_start a n x (y ∷ ys) e = refl

  pub strokes_again : (ss : List (List A)) (a n : ℕ) → n ≡ a + length (joined ss) → gather at a (length (joined ss)) ≡ joined ss → strokes_of at n (starts_from a ss) ≡ ss
  unfolding strokes_of starts_from joined
  strokes_again [] a n e g = refl
  strokes_again (x ∷ xs) a n e g =
      let k = length x in
      let r = length (joined xs) in
      let l : length (x ++ joined xs) ≡ k + r = length-append x (joined xs) in
      let h : gather at a k ++ gather at (a + k) r ≡ x ++ joined xs = sym (gather-add a k r) ∙ ap (gather at a) (sym l) ∙ g in
      let first : gather at a k ≡ x = sym (take_at (gather at a k) (gather at (a + k) r) k (length-gather at a k)) ∙ ap (take k) h ∙ take_at x (joined xs) k refl in
      let rest : gather at (a + k) r ≡ joined xs = sym (drop_at (gather at a k) (gather at (a + k) r) k (length-gather at a k)) ∙ ap (drop k) h ∙ drop_at x (joined xs) k refl in
      let d : a + k - a ≡ k = omega arith in
      let tail : strokes_of at n (starts_from (a + k) xs) ≡ xs = strokes_again xs (a + k) n (omega (arith, l)) rest in
      rw (next_start a n x xs e, d, first, tail)

-- a list is its numbers, read by place
pub gather-all : (ns : List ℕ) → gather (number_at ns) 0 (length ns) ≡ ns
gather-all ns = gather-drop ns 0 (length ns) (omega arith) ∙ take_all (length ns) ns (omega arith)

none_at_all : (ns : List ℕ) → length ns ≡ 0 → [] ≡ ns
none_at_all [] h = refl
none_at_all (x ∷ ns) h = absurd (omega arith)

pub joined-all : (ns ss : List ℕ) → good_starts (length ns) ss ≡ true → joined (strokes_of (number_at ns) (length ns) ss) ≡ ns
unfolding good_starts strokes_of joined
joined-all ns [] g = none_at_all ns (eqb-true (length ns) 0 g)
joined-all ns (s ∷ ss) g =
    let b = both (eqb s 0) (good_from (length ns) s ss) g in
    let z = eqb-true s 0 b.0 in
    let e : length ns - s ≡ length ns = omega arith in
    joined-from (number_at ns) (length ns) s ss (omega arith) b.1 ∙ rw (e, z) (gather-all ns)

-- the front of a list that was written over is what was written
front : {A : Type 0} (old new : List A) (n : ℕ) → n ≡ length new → take n (over old new) ≡ new
unfolding over
front old new n e = take_at new (drop (length new) old) n (sym e)

-- strokes of numbers laid into two lists are read back by their counts
pub laid-again : (ss : List (List ℕ)) (op os : List ℕ) → let ps = take (length (joined ss)) (over op (joined ss)) in strokes_of (number_at ps) (length ps) (take (length ss) (over os (starts_from 0 ss))) ≡ ss
laid-again ss op os =
    rw (front op (joined ss) (length (joined ss)) refl, front os (starts_from 0 ss) (length ss) (sym (length-starts 0 ss)))
    (strokes_again (number_at (joined ss)) ss 0 (length (joined ss)) (omega arith) (gather-all (joined ss)))
