-- The two returns of a C function over a call on lent lists.
use mathlib.Core.Path.{◌≡◌, sym, ap, ◌∙◌}
use mathlib.Core.List.{List, ◌∷◌}
use Prim.Native.Nat.{ℕ}
use lib.ListN.{get_or}
use Rattle.refusal.specs.Refusals.{number_of, carried_by}
use Rattle.refusal.specs.Said.{Said, accepted, refused}
use Rattle.refusal.specs.Outcome.{Outcome, leaves}
use Rattle.refusal.specs.declared.Refusal.{Refusal}
use Rattle.ramikohy.specs.Calls.{called, called_by, faced, faced_by}

module _ {L : Type 0} (o : Outcome L) (answer : Said ℕ) (l : L) (old : List ℕ) (left : leaves answer l ≡ o) where
  -- what is left outside follows the answer of the call
  follows : {is : Said ℕ} → answer ≡ is → called_by (leaves is l) old ≡ called_by o old
  follows e = ap (λ a. called_by (leaves a l) old) (sym e) ∙ ap (λ x. called_by x old) left

  pub wrote : (n : ℕ) (ns : List ℕ) → answer ≡ accepted (n ∷ ns) → called 0 (n ∷ ns) l ≡ called_by o old
  wrote n ns e = follows e

  pub refuse : (k : ℕ) (why : Refusal) → k ≡ number_of why → answer ≡ refused why → called k old l ≡ called_by o old
  refuse k why n e = ap (λ (x : ℕ). called x old l) n ∙ follows e

  -- the same with a place for a face
  module _ (face : ℕ) where
    faced-follows : {is : Said ℕ} → answer ≡ is → faced_by (leaves is l) old face ≡ faced_by o old face
    faced-follows e = ap (λ a. faced_by (leaves a l) old face) (sym e) ∙ ap (λ x. faced_by x old face) left

    pub wrote-faced : (n : ℕ) (ns : List ℕ) → answer ≡ accepted (n ∷ ns) → faced (called 0 (n ∷ ns) l) face ≡ faced_by o old face
    wrote-faced n ns e = faced-follows e

    pub refuse-faced : (k : ℕ) (why : Refusal) (next : ℕ) → k ≡ number_of why → next ≡ get_or (carried_by why) 0 face → answer ≡ refused why → faced (called k old l) next ≡ faced_by o old face
    refuse-faced k why next n f e = rw (n, f) (faced-follows e)
