-- What is kept point by point is what is kept piece by piece.
use mathlib.Core.Path.{◌≡◌, refl, sym, ap, ◌∙◌, subst}
use mathlib.Core.Bool.{Bool, true, false, ◌&&◌, cond, true≢false}
use mathlib.Core.List.{List, [], ◌∷◌, ◌++◌}
use Prim.Native.Nat.{ℕ, zero, suc, ◌+◌, ◌-◌}
use native.Mathlib.Omega.{arith}
use native.Mathlib.Nat.{add-zero}
use lib.ListN.{length}
use lib.Dec.{leb, ltb}
use borrow.Author.Tests.{le-leb, lt-ltb, le-ltb}
use Rattle.path.specs.Strokes.{gather}
use Rattle.path.specs.Laid.{joined, starts_from}
use Rattle.sheet_salvage.specs.Salvage.{longer, pieces_of, long_ones}
use Rattle.sheet_salvage.specs.InnerPieces.{least_kept, kept_pieces, kept_from}
use Rattle.sheet_salvage.specs.InnerScan.{next_good, scanned, begun}

-- the first piece, and the others
first_of : List (List ℕ) → List ℕ
first_of [] = []
first_of (c ∷ cs) = c

rest_of : List (List ℕ) → List (List ℕ)
rest_of [] = []
rest_of (c ∷ cs) = cs

first-longer : (p : ℕ) (cs : List (List ℕ)) → first_of (longer p cs) ≡ p ∷ first_of cs
unfolding first_of longer
first-longer p [] = refl
first-longer p (c ∷ cs) = refl

rest_longer : (p : ℕ) (cs : List (List ℕ)) → rest_of (longer p cs) ≡ rest_of cs
unfolding rest_of longer
rest_longer p [] = refl
rest_longer p (c ∷ cs) = refl

-- a piece with one point more is long enough if it had one
two-of : (c : List ℕ) → leb 2 (suc (length c)) ≡ ltb 0 (length c)
two-of [] = refl
two-of (x ∷ c) = le-leb 2 (suc (suc (length c))) (omega arith) ∙ sym (lt-ltb 0 (suc (length c)) (omega arith))

long-longer : (p : ℕ) (cs : List (List ℕ)) → long_ones 2 (longer p cs) ≡ cond (ltb 0 (length (first_of cs))) ((p ∷ first_of cs) ∷ long_ones 2 (rest_of cs)) (long_ones 2 (rest_of cs))
unfolding long_ones longer first_of rest_of
long-longer p [] = refl
long-longer p (c ∷ cs) = rw (two-of c)

-- the first piece has points if the first point is below n
next_first : (n : ℕ) (ps : List ℕ) → next_good n ps ≡ ltb 0 (length (first_of (pieces_of n ps)))
unfolding next_good pieces_of first_of
next_first n [] = refl
next_first n (q ∷ qs) = go (ltb q n)
  where
    go : (b : Bool) → b ≡ ltb 0 (length (first_of (cond b (longer q (pieces_of n qs)) ([] ∷ pieces_of n qs))))
    go true = rw (first-longer q (pieces_of n qs)) (sym (lt-ltb 0 (suc (length (first_of (pieces_of n qs)))) (omega arith)))
    go false = refl

no_first : (c : List ℕ) → ltb 0 (length c) ≡ false → c ≡ []
no_first [] h = refl
no_first (x ∷ c) h = absurd (true≢false (sym (lt-ltb 0 (suc (length c)) (omega arith)) ∙ h))

-- ---- the numbers from a point on that follows none below n, and from one on that follows one below n

module _ (n : ℕ) where
  record Numbers (s : List ℕ) : Type 0 where
    fresh : scanned n false false s ≡ joined (long_ones 2 (pieces_of n s))
    going : scanned n false true s ≡ first_of (pieces_of n s) ++ joined (long_ones 2 (rest_of (pieces_of n s)))

  module _ (p : ℕ) (s : List ℕ) (ih : Numbers s) where
    numbers-fresh : (b g : Bool) → g ≡ ltb 0 (length (first_of (pieces_of n s)))
        → cond (b && g) (p ∷ scanned n false b s) (scanned n false b s) ≡ joined (long_ones 2 (cond b (longer p (pieces_of n s)) ([] ∷ pieces_of n s)))
    unfolding joined long_ones
    numbers-fresh false g e = ih.fresh
    numbers-fresh true true e = rw (long-longer p (pieces_of n s), ← e) (ap (λ (l : List ℕ). p ∷ l) ih.going)
    numbers-fresh true false e = rw (long-longer p (pieces_of n s), ← e) (ih.going ∙ ap (λ (c : List ℕ). c ++ joined (long_ones 2 (rest_of (pieces_of n s)))) (no_first (first_of (pieces_of n s)) (sym e)))

    numbers-going : (b : Bool) → cond (b && true) (p ∷ scanned n false b s) (scanned n false b s)
        ≡ first_of (cond b (longer p (pieces_of n s)) ([] ∷ pieces_of n s)) ++ joined (long_ones 2 (rest_of (cond b (longer p (pieces_of n s)) ([] ∷ pieces_of n s))))
    unfolding first_of rest_of
    numbers-going false = ih.fresh
    numbers-going true = rw (first-longer p (pieces_of n s), rest_longer p (pieces_of n s)) (ap (λ (l : List ℕ). p ∷ l) ih.going)

  numbers : (s : List ℕ) → Numbers s
  unfolding scanned pieces_of long_ones joined first_of rest_of
  numbers [] = record { fresh = refl; going = refl }
  numbers (p ∷ s) = record { fresh = numbers-fresh p s (numbers s) (ltb p n) (next_good n s) (next_first n s); going = numbers-going p s (numbers s) (ltb p n) }

  -- ---- and their starts

  record Starts (s : List ℕ) : Type 0 where
    fresh : (k : ℕ) → begun n false false k s ≡ starts_from k (long_ones 2 (pieces_of n s))
    going : (k : ℕ) → begun n false true k s ≡ starts_from (k + length (first_of (pieces_of n s))) (long_ones 2 (rest_of (pieces_of n s)))

  module _ (p : ℕ) (s : List ℕ) (ih : Starts s) (k : ℕ) where
    starts-fresh : (b g : Bool) → g ≡ ltb 0 (length (first_of (pieces_of n s)))
        → cond (b && g) (k ∷ begun n false b (k + 1) s) (begun n false b k s) ≡ starts_from k (long_ones 2 (cond b (longer p (pieces_of n s)) ([] ∷ pieces_of n s)))
    unfolding starts_from long_ones
    starts-fresh false g e = ih.fresh k
    starts-fresh true true e =
        let z : k + 1 + length (first_of (pieces_of n s)) ≡ k + suc (length (first_of (pieces_of n s))) = omega arith in
        rw (long-longer p (pieces_of n s), ← e) (ap (λ (l : List ℕ). k ∷ l) (ih.going (k + 1) ∙ ap (λ (x : ℕ). starts_from x (long_ones 2 (rest_of (pieces_of n s)))) z))
    starts-fresh true false e =
        let z : k + length (first_of (pieces_of n s)) ≡ k = omega (arith, ap length (no_first (first_of (pieces_of n s)) (sym e))) in
        rw (long-longer p (pieces_of n s), ← e) (ih.going k ∙ ap (λ (x : ℕ). starts_from x (long_ones 2 (rest_of (pieces_of n s)))) z)

    starts-going : (b : Bool) → cond (b && true) (begun n false b (k + 1) s) (begun n false b k s)
        ≡ starts_from (k + length (first_of (cond b (longer p (pieces_of n s)) ([] ∷ pieces_of n s)))) (long_ones 2 (rest_of (cond b (longer p (pieces_of n s)) ([] ∷ pieces_of n s))))
    unfolding first_of rest_of
    starts-going false = rw (add-zero k) (ih.fresh k)
    starts-going true =
        let z : k + 1 + length (first_of (pieces_of n s)) ≡ k + suc (length (first_of (pieces_of n s))) = omega arith in
        rw (first-longer p (pieces_of n s), rest_longer p (pieces_of n s)) (ih.going (k + 1) ∙ ap (λ (x : ℕ). starts_from x (long_ones 2 (rest_of (pieces_of n s)))) z)

  starts : (s : List ℕ) → Starts s
  unfolding begun pieces_of long_ones starts_from first_of rest_of
  starts [] = record { fresh = λ k. refl; going = λ k. refl }
  starts (p ∷ s) = record { fresh = λ k. starts-fresh p s (starts s) k (ltb p n) (next_good n s) (next_first n s); going = λ k. starts-going p s (starts s) k (ltb p n) }

-- ---- a stroke from a up to e

module _ (n : ℕ) (at : ℕ → ℕ) (a e : ℕ) where
  pub scan_is : scanned n (ltb (e - a) 2) false (gather at a (e - a)) ≡ joined (kept_from n at a e)
  unfolding kept_from kept_pieces gather scanned pieces_of long_ones longer joined next_good
  scan_is = go (e - a)
    where
      go : (k : ℕ) → scanned n (ltb k 2) false (gather at a k) ≡ joined (long_ones (least_kept k) (pieces_of n (gather at a k)))
      go zero = refl
      go (suc zero) = one (ltb (at a) n)
        where
          one : (b : Bool) → cond (b && true) (at a ∷ []) [] ≡ joined (long_ones 1 (cond b ((at a ∷ []) ∷ []) ([] ∷ [] ∷ [])))
          one true = refl
          one false = refl
      go (suc (suc k)) =
          let long : ltb (suc (suc k)) 2 ≡ false = le-ltb (suc (suc k)) 2 (omega arith) in
          subst (λ (b : Bool). scanned n b false (gather at a (suc (suc k))) ≡ joined (long_ones (cond b 1 2) (pieces_of n (gather at a (suc (suc k))))))
          (sym long) (numbers n (gather at a (suc (suc k)))).fresh

  pub begun-is : (m : ℕ) → begun n (ltb (e - a) 2) false m (gather at a (e - a)) ≡ starts_from m (kept_from n at a e)
  unfolding kept_from kept_pieces gather begun pieces_of long_ones longer starts_from next_good
  begun-is m = go (e - a)
    where
      go : (k : ℕ) → begun n (ltb k 2) false m (gather at a k) ≡ starts_from m (long_ones (least_kept k) (pieces_of n (gather at a k)))
      go zero = refl
      go (suc zero) = one (ltb (at a) n)
        where
          one : (b : Bool) → cond (b && true) (m ∷ []) [] ≡ starts_from m (long_ones 1 (cond b ((at a ∷ []) ∷ []) ([] ∷ [] ∷ [])))
          one true = refl
          one false = refl
      go (suc (suc k)) =
          let long : ltb (suc (suc k)) 2 ≡ false = le-ltb (suc (suc k)) 2 (omega arith) in
          subst (λ (b : Bool). begun n b false m (gather at a (suc (suc k))) ≡ starts_from m (long_ones (cond b 1 2) (pieces_of n (gather at a (suc (suc k))))))
          (sym long) ((starts n (gather at a (suc (suc k)))).fresh m)
