-- What an order reads: the entries of the code, and the definition's chains.
use mathlib.Core.Path.{◌≡◌, refl, sym, ap, ◌∙◌}
use mathlib.Core.Logic.{◌≢◌}
use mathlib.Core.List.{List, [], ◌∷◌, ◌++◌, reverse, reverse-append, map}
use Prim.Native.Nat.{ℕ, zero, suc, ◌+◌, ◌-◌, ◌*◌, ◌/◌, ◌%◌, ◌≤◌, ◌<◌}
use native.Mathlib.Omega.{arith}
use native.Mathlib.Decide.{ℕ_discrete}
use native.Mathlib.Numerals.{add-one}
use lib.ListN.{length, get_or, drop, take, set, length-append, length-reverse, drop_of_length-le, length-map, get_or-map}
use lib.Seq.{drop-cons, length-take-le, length_front, take_at, ext_get_or}
use mathlib.Core.Logic.{inr}
use Rattle.order.specs.Regions.{region, put, Off}
use Rattle.path.specs.Strokes.{strokes_in}
use Rattle.path.proofs.Pushes.{Lays, over-sets}
use Rattle.path_splice.specs.InnerText.{Spans, entry_text, start_mark, order_text, marks_of, ReadOut, Filled}
use Rattle.path_splice_rule.specs.Splice.{turned, read_from, value_at, present}
use Rattle.path_splice_rule.proofs.Ends.{is_zero_lem, not_zero}
use Rattle.order.proofs.Parts.{put-append, length-region, put-lent, region-off, region-put}
use Rattle.path_splice.proofs.Tables.{region-first, region-last}

pub nothing : {A : Type 0} (k j : ℕ) → ◌≡◌ {A = List A} (drop k (turned j [])) []
unfolding turned
nothing zero zero = refl
nothing zero (suc j) = refl
nothing (suc k) zero = refl
nothing (suc k) (suc j) = refl

sub-both : (a b k : ℕ) → b - (a + k) ≡ b - a - k
sub-both a b k = omega arith

sub-turn : (a b k : ℕ) → b - k - a ≡ b - a - k
sub-turn a b k = omega arith

-- an entry of a stroke
module _ (ps ss : List ℕ) (x i a b : ℕ) (on : i ≡ x / 2 / 2) (S : Spans ps ss i a b) where
  abbrev All : List (List ℕ)
  All = strokes_in ps ss

  part-is : entry_text All x ≡ drop (1 - x % 2) (turned (x / 2 % 2) (region ps a (b - a)))
  unfolding entry_text read_from
  part-is = rw (← on, S.is)

  pub part-empty : a ≡ b → entry_text All x ≡ []
  part-empty q =
      let z : b - a ≡ 0 = omega arith in
      part-is ∙ ap (λ (n : ℕ). drop (1 - x % 2) (turned (x / 2 % 2) (region ps a n))) z ∙ nothing (1 - x % 2) (x / 2 % 2)

  pub part-forward : (k : ℕ) → k ≡ 1 - x % 2 → a ≢ b → x / 2 % 2 ≡ 0 → entry_text All x ≡ region ps (a + k) (b - (a + k))
  unfolding turned
  part-forward k q n z = part-is ∙ ap (λ (j : ℕ). drop (1 - x % 2) (turned j (region ps a (b - a)))) z ∙ ap (λ (j : ℕ). drop j (region ps a (b - a))) (sym q) ∙ go k (omega arith)
    where
      go : (k : ℕ) → k ≤ 1 → drop k (region ps a (b - a)) ≡ region ps (a + k) (b - (a + k))
      go zero l = let p : a + 0 ≡ a = omega arith in rw p
      go (suc zero) l = ap (drop 1) (region-first ps a b (omega (arith, S.low)) S.high)
      go (suc (suc k)) l = absurd (omega arith)

  pub part-backward : (k : ℕ) → k ≡ 1 - x % 2 → a ≢ b → x / 2 % 2 ≢ 0 → entry_text All x ≡ reverse (region ps a (b - k - a))
  unfolding turned
  part-backward k q n z =
      let u : x / 2 % 2 ≡ 1 = omega arith in
      part-is ∙ ap (λ (j : ℕ). drop (1 - x % 2) (turned j (region ps a (b - a)))) u ∙ ap (λ (j : ℕ). drop j (reverse (region ps a (b - a)))) (sym q) ∙ go k (omega arith)
    where
      go : (k : ℕ) → k ≤ 1 → drop k (reverse (region ps a (b - a))) ≡ reverse (region ps a (b - k - a))
      go zero l = let p : b - 0 ≡ b = omega arith in rw p
      go (suc zero) l = ap (λ (r : List ℕ). drop 1 (reverse r)) (region-last ps a b (omega (arith, S.low)) S.high) ∙ ap (drop 1) (reverse-append (region ps a (b - 1 - a)) (get_or ps (b - 1) 0 ∷ []))
      go (suc (suc k)) l = absurd (omega arith)

  pub part-size : (k : ℕ) → k ≡ 1 - x % 2 → a ≢ b → length (entry_text All x) ≡ b - a - k
  part-size k q n =
      elim (ℕ_discrete (x / 2 % 2) 0) [
        | yes z ↦ ap length (part-forward k q n z) ∙ length-region ps (a + k) (b - (a + k)) (omega (arith, S.low, S.high)) ∙ sub-both a b k
        | no z ↦ ap length (part-backward k q n z) ∙ length-reverse (region ps a (b - k - a)) ∙ length-region ps a (b - k - a) (omega (arith, S.low, S.high)) ∙ sub-turn a b k
      ]

-- marks
pub mark_none : (p x : ℕ) → x % 2 ≡ 0 → start_mark p x ≡ []
unfolding start_mark
mark_none p x e = rw (is_zero_lem (x % 2) e)

pub mark_one : (p x : ℕ) → x % 2 ≢ 0 → start_mark p x ≡ p ∷ []
unfolding start_mark
mark_one p x e = rw (not_zero (x % 2) e)

pub put-none : (s : List ℕ) (a : ℕ) (l : List ℕ) → l ≡ [] → s ≡ put s a l
unfolding put
put-none s a l e = rw e

pub put-single : (s : List ℕ) (a x : ℕ) (l : List ℕ) → l ≡ x ∷ [] → set s a x ≡ put s a l
unfolding put
put-single s a x l e = rw e

-- words lie as they are
pub words_lie : Lays put (λ ns. ns) 1
unfolding put
words_lie = record { none = λ l i. refl; more = put-append; fore = λ l new h. over-sets l new (omega arith) }

-- the loop over an order, where `write` stores points from a place on
pub record Reading {A B : Type 0} (write : List B → ℕ → List A → List B) (ss : List (List A)) (order : List ℕ) (op : List B) (os : List ℕ) (op' : List B) (os' : List ℕ) (p q j : ℕ) : Type 0 where
  pub points : write op 0 (order_text ss order) ≡ write op' p (order_text ss (drop j order))
  pub starts : put os 0 (marks_of ss 0 order) ≡ put os' q (marks_of ss p (drop j order))
  pub many : length (order_text ss order) ≡ p + length (order_text ss (drop j order))
  pub chains : length (marks_of ss 0 order) ≡ q + length (marks_of ss p (drop j order))

module _ {A B : Type 0} {write : List B → ℕ → List A → List B} {flat : List A → List B} {width : ℕ} (lays : Lays write flat width) (ss : List (List A)) (order : List ℕ) (op : List B) (os : List ℕ) where
  pub reading : Reading write ss order op os op os 0 0 0
  reading = record { points = refl; starts = refl; many = omega arith; chains = omega arith }

  module _ (op1 : List B) (os1 : List ℕ) (p q j : ℕ) (R : Reading write ss order op os op1 os1 p q j) where
    module _ (h : j < length order) where
      abbrev x : ℕ
      x = get_or order j 0

      abbrev rest : List A
      rest = order_text ss (drop (j + 1) order)

      abbrev marks : List ℕ
      marks = marks_of ss (p + length (entry_text ss x)) (drop (j + 1) order)

      text-is : order_text ss (drop j order) ≡ entry_text ss x ++ rest
      unfolding order_text
      text-is = rw (drop-cons order j 0 h, add-one)

      marks-is : marks_of ss p (drop j order) ≡ start_mark p x ++ marks
      unfolding marks_of
      marks-is = rw (drop-cons order j 0 h, add-one)

      text-size : length (order_text ss (drop j order)) ≡ length (entry_text ss x) + length rest
      text-size = ap length text-is ∙ length-append (entry_text ss x) rest

      marks-size : length (marks_of ss p (drop j order)) ≡ length (start_mark p x) + length marks
      marks-size = ap length marks-is ∙ length-append (start_mark p x) marks

      pub point-room : p + length (entry_text ss x) ≤ length (order_text ss order)
      point-room = omega (arith, text-size, R.many)

      pub mark-room : q + length (start_mark p x) ≤ length (marks_of ss 0 order)
      mark-room = omega (arith, marks-size, R.chains)

      pub reading-more : (op2 : List B) (os2 : List ℕ) (p2 q2 : ℕ) → op2 ≡ write op1 p (entry_text ss x) → p2 ≡ p + length (entry_text ss x) → os2 ≡ put os1 q (start_mark p x) → q2 ≡ q + length (start_mark p x)
          → Reading write ss order op os op2 os2 p2 q2 (j + 1)
      reading-more op2 os2 p2 q2 a b d e =
          record {
            points = R.points ∙ ap (write op1 p) text-is ∙ sym (lays.more op1 p (entry_text ss x) rest) ∙ ap (λ (z : List B). write z (p + length (entry_text ss x)) rest) (sym a) ∙ ap (λ (z : ℕ). write op2 z rest) (sym b);
            starts = R.starts ∙ ap (put os1 q) marks-is ∙ sym (put-append os1 q (start_mark p x) marks) ∙ ap (λ (z : List ℕ). put z (q + length (start_mark p x)) marks) (sym d) ∙ ap (λ (z : ℕ). put os2 z marks) (sym e) ∙ ap (λ (z : ℕ). put os2 q2 (marks_of ss z (drop (j + 1) order))) (sym b);
            many = omega (arith, R.many, text-size);
            chains = R.chains ∙ omega (arith, marks-size) ∙ ap (λ (z : ℕ). q2 + length (marks_of ss z (drop (j + 1) order))) (sym b);
          }

    pub read_all : length order ≤ j → ReadOut write ss order op os op1 os1 p q
    unfolding order_text marks_of put
    read_all h =
        let e : drop j order ≡ [] = drop_of_length-le order h in
        let t : order_text ss (drop j order) ≡ [] = rw e in
        let m : marks_of ss p (drop j order) ≡ [] = rw e in
        record {
          points = sym (R.points ∙ ap (write op1 p) t ∙ lays.none op1 p);
          starts = sym (R.starts ∙ ap (put os1 q) m);
          many = omega (arith, R.many, ap length t);
          chains = omega (arith, R.chains, ap length m);
        }

-- the two parts that are lent and filled
pub filled : (ss : List (List ℕ)) (s : List ℕ) (n : ℕ) → length ss ≡ n → 7 * n ≤ length s → (l k : List ℕ) → length l ≡ length (take (2 * n) s) → ((e : ℕ) → e < length (take (2 * n) s) → get_or l e 0 ≡ value_at 0 ss e)
    → length k ≡ length (region (l ++ drop (2 * n) s) (6 * n) (7 * n - 6 * n)) → ((i : ℕ) → i < length (region (l ++ drop (2 * n) s) (6 * n) (7 * n - 6 * n)) → get_or k i 0 ≡ present (get_or ss i []))
    → Filled ss (take (6 * n) (l ++ drop (2 * n) s) ++ (k ++ drop (7 * n - 6 * n) (drop (6 * n) (l ++ drop (2 * n) s)))) n
unfolding present
filled ss s n q h l k a f b g =
    let m : length (take (2 * n) s) ≡ 2 * n = length-take-le (2 * n) s (omega arith) in
    let s1 = l ++ drop (2 * n) s in
    let z : length s1 ≡ length s = length_front s l (2 * n) a in
    let w : 7 * n - 6 * n ≡ n = omega arith in
    let u : length (region s1 (6 * n) (7 * n - 6 * n)) ≡ n = ap (λ (j : ℕ). length (region s1 (6 * n) j)) w ∙ length-region s1 (6 * n) n (omega arith) in
    let v : length k ≡ n = b ∙ u in
    let p : take (6 * n) s1 ++ (k ++ drop (7 * n - 6 * n) (drop (6 * n) s1)) ≡ put s1 (6 * n) k = put-lent s1 (6 * n) (7 * n - 6 * n) k (v ∙ sym w) (omega arith) in
    let o : Off (6 * n) (length k) 0 (2 * n) = inr (omega arith) in
    let r0 : region (put s1 (6 * n) k) 0 (2 * n) ≡ l = region-off s1 (6 * n) k 0 (2 * n) o (omega arith) ∙ take_at l (drop (2 * n) s) (2 * n) (a ∙ m) in
    let mm : length (map present ss) ≡ n = length-map ss present ∙ q in
    let t : k ≡ map present ss = ext_get_or 0 k (map present ss) (v ∙ sym mm) (λ i j. g i (omega arith) ∙ sym (get_or-map present ss i [])) in
    rw p (record { values = λ e j. ap (λ (y : List ℕ). get_or y e 0) r0 ∙ f e (omega arith); todo = region-put s1 (6 * n) n k v (omega arith) ∙ t })
