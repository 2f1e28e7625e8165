-- The laws of an outcome: the two returns of every call, what an answer tells of the verdict, and that a contract permits one.
use mathlib.Core.Path.{◌≡◌, refl, sym, ap}
use mathlib.Core.List.{List}
use Prim.Native.Nat.{ℕ}
use Rattle.refusal.specs.declared.Refusal.{Refusal}
use Rattle.std.specs.Prelude.{Ok, Err}
use Rattle.refusal.specs.Refusals.{Verdict}
use Rattle.refusal.specs.Said.{Said, accepted, refused, verdict_said}
use Rattle.refusal.specs.Outcome.{Outcome, leaves, outcome}
use Rattle.refusal.specs.One.{One}
use Rattle.refusal.proofs.Unique.{one-read, one-refusal, never_both}

module _ {L : Type 0} (v : Verdict) (old : L) (done : Outcome L) where
  pub accept : {o : Outcome L} → v ≡ Ok tt → o ≡ done → o ≡ outcome v old done
  unfolding outcome
  accept z e = rw z e

  pub refuse : (r : Refusal) → Err r ≡ v → leaves (refused r) old ≡ outcome v old done
  unfolding outcome
  refuse r e = rw (← e)

-- where the answer is that of an accepted call, the verdict was, and the work left what there is
pub was_accepted : {L : Type 0} (v : Verdict) (old l : L) (done : Outcome L) (vs : List ℕ) → leaves (accepted vs) l ≡ outcome v old done
    → (v ≡ Ok tt) × (leaves (accepted vs) l ≡ done)
unfolding outcome
was_accepted (Ok _) old l done vs e = (refl, e)
was_accepted (Err r) old l done vs e = absurd (never_both vs r (ap (λ o. o.answer) e))

-- an outcome is told by its answer, which is told by what is said of it, and by what is lent
pub one-outcome : {A L : Type 0} (said : A → Said ℕ) → ((r t : A) → said r ≡ said t → r ≡ t) → (x : Outcome L) → One (A × L) (λ o. leaves (said o.0) o.1 ≡ x)
one-outcome said told = one-read (λ o. leaves (said o.0) o.1) (λ r t e. let a = told r.0 t.0 (ap (λ o. o.answer) e) in λ i. (a i, (e i).lent))

-- where the work accepts, a refusal is the verdict's, and so is the number of every answer
module _ {L : Type 0} (v : Verdict) (old d : L) (vs : List ℕ) where
  pub was_refused : (r : Refusal) (l : L) → leaves (refused r) l ≡ outcome v old (leaves (accepted vs) d) → v ≡ Err r
  unfolding outcome
  was_refused r l e = go v e
    where
      go : (v : Verdict) → leaves (refused r) l ≡ outcome v old (leaves (accepted vs) d) → v ≡ Err r
      go (Ok _) e = absurd (never_both vs r (sym (ap (λ o. o.answer) e)))
      go (Err t) e = ap Err (one-refusal t r (sym (ap (λ o. o.answer) e)))

  pub answers : (outcome v old (leaves (accepted vs) d)).answer.number ≡ (verdict_said v).number
  unfolding outcome
  answers = go v
    where
      go : (v : Verdict) → (outcome v old (leaves (accepted vs) d)).answer.number ≡ (verdict_said v).number
      go (Ok _) = refl
      go (Err r) = refl
