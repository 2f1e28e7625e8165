-- For code that is not the definition step by step: any search for the highest end is `pick`, and a walk with no fuel is `run` with enough.
use mathlib.Core.Path.{◌≡◌, refl, sym, ap, ◌∙◌}
use mathlib.Core.Bool.{Bool, true, false, cond}
use mathlib.Core.Logic.{◌≢◌}
use mathlib.Core.List.{List, [], ◌∷◌}
use Prim.Native.Nat.{ℕ, zero, suc, ◌/◌, ◌<◌, ◌≤◌}
use native.Mathlib.Omega.{arith}
use native.Mathlib.Decide.{ℕ_discrete}
use lib.ListN.{get_or, set}
use Rattle.path_splice_rule.specs.Splice.{is_zero, opposite, pick, onward, after, run}
use Rattle.path_splice_rule.proofs.Ends.{is_zero_lem, not_zero, nonzero_of}
use Rattle.path_splice_links.proofs.Picking.{hit, miss}
use Rattle.path_splice_rule.specs.Totals.{total}
use Rattle.path_splice_rule.proofs.Totals.{take-off}

module _ (join : ℕ → ℕ → Bool) (ls : List ℕ) (e : ℕ) where
  pub pick-nil : (k : ℕ) → ((g : ℕ) → g < k → get_or ls g 0 ≡ 0 → join e g ≡ false) → pick join ls e k ≡ 0
  unfolding pick
  pick-nil zero h = refl
  pick-nil (suc k) h = miss join ls e (suc k) k refl (λ u. h k (omega arith) u) ∙ pick-nil k (λ g l u. h g (omega arith) u)

  pub pick_is : (k f : ℕ) → f < k → get_or ls f 0 ≡ 0 → join e f ≡ true → ((g : ℕ) → f < g → g < k → get_or ls g 0 ≡ 0 → join e g ≡ false) → pick join ls e k ≡ suc f
  pick_is zero f l u j h = absurd (omega arith)
  pick_is (suc k) f l u j h = elim (ℕ_discrete f k) [ yes q ↦ top q | no n ↦ lower n (λ b. pick_is k f b u j (λ g a b v. h g a (omega arith) v)) ]
    where
      top : f ≡ k → pick join ls e (suc k) ≡ suc f
      top q = hit join ls e (suc k) f (ap suc (sym q)) u j ∙ ap suc (sym q)

      lower : f ≢ k → (f < k → pick join ls e k ≡ suc f) → pick join ls e (suc k) ≡ suc f
      lower n rec = miss join ls e (suc k) k refl (λ v. h k (omega arith) (omega arith) v) ∙ rec (omega arith)

module _ (link : ℕ → ℕ) where
  pub run-stop : (k : ℕ) (t : List ℕ) (e : ℕ) → onward (set t (e / 2) 0) (link (opposite e)) ≡ 0 → run link k t e ≡ record { chain = e ∷ []; left = set t (e / 2) 0 }
  unfolding run after
  run-stop zero t e h = refl
  run-stop (suc k) t e h = rw h

  pub run-go : (k : ℕ) (t : List ℕ) (e f : ℕ) → onward (set t (e / 2) 0) (link (opposite e)) ≡ suc f
      → run link (suc k) t e ≡ record { chain = e ∷ (run link k (set t (e / 2) 0) f).chain; left = (run link k (set t (e / 2) 0) f).left }
  unfolding run after
  run-go k t e f h = rw h

  -- there is fuel left wherever the walk goes on
  pub fuelled : (k : ℕ) (t : List ℕ) (e f : ℕ) → get_or t (e / 2) 0 ≢ 0 → get_or (set t (e / 2) 0) (f / 2) 0 ≢ 0 → total (λ s. 1) 0 t ≤ suc k
      → (1 ≤ k) × (total (λ s. 1) 0 (set t (e / 2) 0) ≤ k)
  fuelled k t e f he hf b =
      let p = take-off (λ s. 1) 0 t (e / 2) he in
      let q = take-off (λ s. 1) 0 (set t (e / 2) 0) (f / 2) hf in
      (omega arith, omega arith)

module _ (ls t : List ℕ) (o e : ℕ) (q : o ≡ opposite e) where
  pub on_none : get_or ls o 0 ≡ 0 → 0 ≡ onward t (get_or ls (opposite e) 0)
  unfolding onward
  on_none h = rw (← q, h)

  pub on-seen : (f : ℕ) → get_or ls o 0 ≡ suc f → get_or t (f / 2) 0 ≡ 0 → 0 ≡ onward t (get_or ls (opposite e) 0)
  unfolding onward
  on-seen f h d = rw (← q, h, is_zero_lem (get_or t (f / 2) 0) d)

  pub on_go : (f : ℕ) → get_or ls o 0 ≡ suc f → get_or t (f / 2) 0 ≢ 0 → suc f ≡ onward t (get_or ls (opposite e) 0)
  unfolding onward
  on_go f h d = rw (← q, h, not_zero (get_or t (f / 2) 0) d)

-- what `onward` answers is a stroke to do
pub onward-todo : (t : List ℕ) (x f : ℕ) → onward t x ≡ suc f → (x ≡ suc f) × (get_or t (f / 2) 0 ≢ 0)
unfolding onward
onward-todo t zero f h = absurd (omega arith)
onward-todo t (suc g) f h = go (is_zero (get_or t (g / 2) 0)) refl h
  where
    go : (b : Bool) → is_zero (get_or t (g / 2) 0) ≡ b → cond b 0 (suc g) ≡ suc f → (suc g ≡ suc f) × (get_or t (f / 2) 0 ≢ 0)
    go true q h = absurd (omega arith)
    go false q h = let p : g ≡ f = omega arith in (h, rw (← p) (nonzero_of (get_or t (g / 2) 0) q))
