-- Strokes and their starts.
use mathlib.Core.Path.{◌≡◌, refl, sym, ap, ◌∙◌}
use mathlib.Core.Logic.{◌⊎◌, inl, inr}
use mathlib.Core.Bool.{true, ◌&&◌}
use mathlib.Core.List.{List, [], ◌∷◌, ◌++◌}
use Prim.Native.Nat.{ℕ, suc, ◌+◌, ◌-◌, ◌≤◌, ◌<◌}
use native.Mathlib.Omega.{arith}
use lib.ListN.{length, length-append}
use lib.Dec.{ltb, eqb}
use borrow.Author.Tests.{ltb-true, eqb-true, lt-ltb, le-ltb, le-leb, eq-eqb}
use Rattle.path.specs.Strokes.{good_from, good_starts, gather, strokes_of}
use Rattle.path.specs.Laid.{non_empty, joined, starts_from}
use Rattle.path.proofs.Gathers.{length-gather}
use Rattle.path.proofs.Starts.{table_next}
use Rattle.path.proofs.Tests.{both, split}
use Rattle.path.proofs.Pushes.{length-starts}
use Rattle.sheet.specs.InnerKept.{kept_one, kept_from}
use Rattle.sheet.specs.Sheets.{strict_from, table_good}

module _ {A : Type 0} (at : ℕ → A) where
  -- the starts of the strokes that have points: one stroke, and those after it
  kept_step : (s e : ℕ) (rest : List (List A)) (k : List ℕ) → s ≤ e → starts_from e (non_empty rest) ≡ k → starts_from s (non_empty (gather at s (e - s) ∷ rest)) ≡ kept_one s e ++ k
  unfolding starts_from non_empty gather
  kept_step s e rest k h g = go (split e s)
    where
      go : (e ≤ s) ⊎ (s < e) → starts_from s (non_empty (gather at s (e - s) ∷ rest)) ≡ kept_one s e ++ k
      go (inl l) =
          let z : e - s ≡ 0 = omega arith in
          let q : s ≡ e = omega arith in
          rw (z, le-ltb s e l) (ap (λ (x : ℕ). starts_from x (non_empty rest)) q ∙ g)
      go (inr l) =
          let z : e - s ≡ suc (e - (s + 1)) = omega arith in
          let q : s + suc (length (gather at (s + 1) (e - (s + 1)))) ≡ e = omega (arith, length-gather at (s + 1) (e - (s + 1))) in
          rw (z, lt-ltb s e l) (ap (λ (x : ℕ). s ∷ starts_from x (non_empty rest)) q ∙ ap (λ (x : List ℕ). s ∷ x) g)

  kept_from_lem : (n s : ℕ) (ss : List ℕ) → s ≤ n → good_from n s ss ≡ true → starts_from s (non_empty (strokes_of at n (s ∷ ss))) ≡ kept_from n (s ∷ ss)
  unfolding strokes_of kept_from non_empty starts_from
  kept_from_lem n s [] h g = kept_step s n [] [] h refl
  kept_from_lem n s (t ∷ ss) h g =
      let k = table_next n s t ss g in
      kept_step s t (strokes_of at n (t ∷ ss)) (kept_from n (t ∷ ss)) k.0 (kept_from_lem n t ss k.1 k.2)

  pub kept-all : (n : ℕ) (ss : List ℕ) → good_starts n ss ≡ true → starts_from 0 (non_empty (strokes_of at n ss)) ≡ kept_from n ss
  unfolding good_starts strokes_of kept_from non_empty starts_from
  kept-all n [] g = refl
  kept-all n (s ∷ ss) g =
      let b = both (eqb s 0) (good_from n s ss) g in
      let z : 0 ≡ s = sym (eqb-true s 0 b.0) in
      ap (λ (x : ℕ). starts_from x (non_empty (strokes_of at n (s ∷ ss)))) z ∙ kept_from_lem n s ss (omega arith) b.1

  pub kept-count : (n : ℕ) (ss : List ℕ) → good_starts n ss ≡ true → length (non_empty (strokes_of at n ss)) ≡ length (kept_from n ss)
  kept-count n ss g = sym (length-starts 0 (non_empty (strokes_of at n ss))) ∙ ap length (kept-all n ss g)

-- empty strokes have no elements
pub joined-kept : {A : Type 0} (ss : List (List A)) → joined (non_empty ss) ≡ joined ss
unfolding joined non_empty
joined-kept [] = refl
joined-kept ([] ∷ ss) = joined-kept ss
joined-kept ((x ∷ xs) ∷ ss) = rw (joined-kept ss)

-- ---- a table that rises strictly has no empty stroke

strict_next : (n s t : ℕ) (ss : List ℕ) → strict_from n s (t ∷ ss) ≡ true → (ltb s t ≡ true) × (ltb t n ≡ true) × (strict_from n t ss ≡ true)
unfolding strict_from
strict_next n s t ss g =
    let b = both (ltb s t && ltb t n) (strict_from n t ss) g in
    let d = both (ltb s t) (ltb t n) b.0 in
    (d.0, d.1, b.1)

strict_good : (n s : ℕ) (ss : List ℕ) → strict_from n s ss ≡ true → good_from n s ss ≡ true
unfolding good_from
strict_good n s [] g = refl
strict_good n s (t ∷ ss) g =
    let k = strict_next n s t ss g in
    let a = ltb-true s t k.0 in
    let b = ltb-true t n k.1 in
    rw (le-leb s t (omega arith), le-leb t n (omega arith), strict_good n t ss k.2)

strict_kept : (n s : ℕ) (ss : List ℕ) → ltb s n ≡ true → strict_from n s ss ≡ true → kept_from n (s ∷ ss) ≡ s ∷ ss
unfolding kept_from
strict_kept n s [] h g = rw h
strict_kept n s (t ∷ ss) h g =
    let k = strict_next n s t ss g in
    rw k.0 (ap (λ (l : List ℕ). s ∷ l) (strict_kept n t ss k.1 k.2))

pub table_good_lem : (n : ℕ) (ss : List ℕ) → table_good n ss ≡ true → (good_starts n ss ≡ true) × (kept_from n ss ≡ ss)
unfolding table_good good_starts kept_from
table_good_lem n [] g = (g, refl)
table_good_lem n (s ∷ ss) g =
    let b = both (eqb s 0 && ltb s n) (strict_from n s ss) g in
    let d = both (eqb s 0) (ltb s n) b.0 in
    (rw (d.0, strict_good n s ss b.1), strict_kept n s ss d.1 b.1)

-- ---- the starts of strokes that have points rise strictly

strict_starts : {A : Type 0} (n p a : ℕ) (ss : List (List A)) → p < a → n ≡ a + length (joined ss) → strict_from n p (starts_from a (non_empty ss)) ≡ true
unfolding strict_from starts_from non_empty joined
strict_starts n p a [] h e = refl
strict_starts n p a ([] ∷ ss) h e = strict_starts n p a ss h e
strict_starts n p a ((x ∷ xs) ∷ ss) h e =
    let l = length-append xs (joined ss) in
    rw (lt-ltb p a h, lt-ltb a n (omega arith)) (strict_starts n a (a + suc (length xs)) ss (omega arith) (omega arith))

pub table_starts : {A : Type 0} (n : ℕ) (ss : List (List A)) → n ≡ length (joined ss) → table_good n (starts_from 0 (non_empty ss)) ≡ true
unfolding table_good starts_from non_empty joined
table_starts n [] e = eq-eqb n 0 e
table_starts n ([] ∷ ss) e = table_starts n ss e
table_starts n ((x ∷ xs) ∷ ss) e =
    let l = length-append xs (joined ss) in
    rw (lt-ltb 0 n (omega arith)) (strict_starts n 0 (0 + suc (length xs)) ss (omega arith) (omega arith))
