-- What the contract of `splice` permits is one outcome: the answer, scratch, points and starts; and so that of `splice_pairs`.
use mathlib.Core.Path.{◌≡◌}
use mathlib.Core.List.{List}
use Prim.Native.Nat.{ℕ}
use Rattle.std.specs.Prelude.{Result}
use Rattle.path.specs.declared.Place.{Place}
use Rattle.path.specs.Call.{placed_said}
use Rattle.path.proofs.Calls.{one-place}
use Rattle.path.proofs.Places.{placed, same_place}
use Rattle.refusal.specs.declared.Refusal.{Refusal}
use Rattle.refusal.specs.One.{One}
use Rattle.refusal.specs.Said.{Said}
use Rattle.refusal.specs.Outcome.{Outcome}
use Rattle.refusal.proofs.Outcomes.{one-outcome}
use Rattle.path_splice.specs.Call.{Lent, lent, left}

-- an answer that is told by what is said of it, and three lists
one_left : {A : Type 0} (said : A → Said ℕ) → ((r t : A) → said r ≡ said t → r ≡ t) → (x : Outcome Lent)
    → One (A × List ℕ × List ℕ × List ℕ) (λ o. left (said o.0) o.1 o.2 o.3 ≡ x)
one_left said told x r t p q =
    let e = one-outcome said told x (r.0, lent r.1 r.2 r.3) (t.0, lent t.1 t.2 t.3) p q in
    λ i. ((e i).0, (e i).1.scratch, (e i).1.points, (e i).1.starts)

pub one-splice : (x : Outcome Lent) → One (Result Place Refusal × List ℕ × List ℕ × List ℕ) (λ o. left (placed_said o.0) o.1 o.2 o.3 ≡ x)
one-splice = one_left placed_said one-place

-- the same of strokes of two points, whose answer is a place
pub one-pairs : (x : Outcome Lent) → One (Place × List ℕ × List ℕ × List ℕ) (λ o. left (placed o.0) o.1 o.2 o.3 ≡ x)
one-pairs = one_left placed same_place
