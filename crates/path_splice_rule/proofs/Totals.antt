-- Weights summed over the strokes that are still to do.
use mathlib.Core.Path.{◌≡◌, refl, sym, ◌∙◌}
use mathlib.Core.Logic.{◌≢◌}
use mathlib.Core.List.{List, [], ◌∷◌, ◌++◌}
use Prim.Native.Nat.{ℕ, zero, suc, ◌+◌, ◌≤◌}
use native.Mathlib.Omega.{arith}
use native.Mathlib.Decide.{ℕ_discrete}
use native.Mathlib.Nat.{add-zero}
use lib.ListN.{length, get_or, set}
use lib.Seq.{get_or-set_other}
use Rattle.path_splice_rule.specs.Demand.{sum}
use Rattle.path_splice_rule.specs.Totals.{part, total}

pub take-off : (w : ℕ → ℕ) (i : ℕ) (ts : List ℕ) (s : ℕ) → get_or ts s 0 ≢ 0 → total w i ts ≡ w (i + s) + total w i (set ts s 0)
unfolding total
take-off w i [] s h = absurd (h refl)
take-off w i (zero ∷ ts) zero h = absurd (h refl)
take-off w i (suc t ∷ ts) zero h = rw add-zero (omega arith)
take-off w i (t ∷ ts) (suc s) h =
    let p : suc i + s ≡ i + suc s = omega arith in
    let r : total w (suc i) ts ≡ w (i + suc s) + total w (suc i) (set ts s 0) = rw p at (take-off w (suc i) ts s h) in
    omega arith

-- a weight that no stroke to do has
pub total-nil : (w : ℕ → ℕ) (i : ℕ) (ts : List ℕ) → ((s : ℕ) → get_or ts s 0 ≢ 0 → w (i + s) ≡ 0) → total w i ts ≡ 0
unfolding total
total-nil w i [] h = refl
total-nil w i (t ∷ ts) h = here t (h 0) (total-nil w (suc i) ts (λ s n. let p : suc i + s ≡ i + suc s = omega arith in rw p (h (suc s) n)))
  where
    here : (t : ℕ) → (t ≢ 0 → w (i + 0) ≡ 0) → total w (suc i) ts ≡ 0 → part t (w i) + total w (suc i) ts ≡ 0
    here zero h r = omega arith
    here (suc t) h r = let p : w i ≡ 0 = rw add-zero at (h (omega arith)) in omega arith

pub total-none : (w : ℕ → ℕ) (i : ℕ) (ts : List ℕ) → ((s : ℕ) → get_or ts s 0 ≡ 0) → total w i ts ≡ 0
total-none w i ts h = total-nil w i ts (λ s n. absurd (n (h s)))

pub none_left : (i : ℕ) (ts : List ℕ) → total (λ s. 1) i ts ≡ 0 → (s : ℕ) → get_or ts s 0 ≡ 0
unfolding total
none_left i [] h s = refl
none_left i (zero ∷ ts) h zero = refl
none_left i (zero ∷ ts) h (suc s) = none_left (suc i) ts (omega arith) s
none_left i (suc t ∷ ts) h s = absurd (omega arith)

pub total-length : (i : ℕ) (ts : List ℕ) → total (λ s. 1) i ts ≤ length ts
unfolding total
total-length i [] = omega arith
total-length i (zero ∷ ts) = omega (arith, total-length (suc i) ts)
total-length i (suc t ∷ ts) = omega (arith, total-length (suc i) ts)

-- a weight of at most 1 that only one stroke has
pub at_most_one : (w : ℕ → ℕ) (i : ℕ) (ts : List ℕ) → ((s : ℕ) → w s ≤ 1)
    → ((s t : ℕ) → get_or ts s 0 ≢ 0 → get_or ts t 0 ≢ 0 → w (i + s) ≢ 0 → w (i + t) ≢ 0 → s ≡ t) → total w i ts ≤ 1
unfolding total
at_most_one w i [] b u = omega arith
at_most_one w i (t0 ∷ ts) b u =
    here t0 u
    (at_most_one w (suc i) ts b (λ s t hs ht ws wt. let z : suc s ≡ suc t = u (suc s) (suc t) hs ht (rw (shift s) ws) (rw (shift t) wt) in omega arith))
  where
    shift : (s : ℕ) → i + suc s ≡ suc i + s
    shift s = omega arith

    here : (t : ℕ) → ((s r : ℕ) → get_or (t ∷ ts) s 0 ≢ 0 → get_or (t ∷ ts) r 0 ≢ 0 → w (i + s) ≢ 0 → w (i + r) ≢ 0 → s ≡ r) → total w (suc i) ts ≤ 1 → part t (w i) + total w (suc i) ts ≤ 1
    here zero u rest = omega arith
    here (suc t) u rest = elim (ℕ_discrete (w i) 0) [ yes z ↦ omega arith | no n ↦ only n ]
      where
        other : w i ≢ 0 → (s : ℕ) → get_or ts s 0 ≢ 0 → w (suc i + s) ≡ 0
        other n s h = elim (ℕ_discrete (w (suc i + s)) 0) [ yes z ↦ z | no m ↦ absurd (let z : 0 ≡ suc s = u 0 (suc s) (omega arith) h (rw add-zero n) (rw (shift s) m) in omega arith) ]

        only : w i ≢ 0 → w i + total w (suc i) ts ≤ 1
        only n = omega (arith, total-nil w (suc i) ts (other n), b i)

-- what drawing a stroke leaves
pub done_same : (ts : List ℕ) (s : ℕ) → get_or (set ts s 0) s 0 ≡ 0
done_same [] s = refl
done_same (t ∷ ts) zero = refl
done_same (t ∷ ts) (suc s) = done_same ts s

pub done_kept : (ts : List ℕ) (s i : ℕ) → get_or ts i 0 ≡ 0 → get_or (set ts s 0) i 0 ≡ 0
done_kept ts s i h = elim (ℕ_discrete i s) [ yes e ↦ rw e (done_same ts s) | no n ↦ get_or-set_other ts s i 0 0 n ∙ h ]

pub done_other : (ts : List ℕ) (s i : ℕ) → i ≢ s → get_or (set ts s 0) i 0 ≡ 0 → get_or ts i 0 ≡ 0
done_other ts s i n h = sym (get_or-set_other ts s i 0 0 n) ∙ h

-- sums over lists
module _ {A : Type 0} where
  pub sum-append : (w : A → ℕ) (s t : List A) → sum w (s ++ t) ≡ sum w s + sum w t
  unfolding sum
  sum-append w [] t = omega arith
  sum-append w (x ∷ s) t = omega (arith, sum-append w s t)
