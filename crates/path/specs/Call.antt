-- What a call on strokes of points is lent, and what it leaves where it is accepted.
use Rattle.std.specs.Prelude.{List, [], ◌∷◌, ℕ, length, Float, Result}
use Rattle.refusal.specs.declared.Refusal.{Refusal}
use Rattle.refusal.specs.Said.{Said, accepted, said_by}
use Rattle.refusal.specs.Outcome.{Outcome, leaves}
use Rattle.vector.specs.declared.Vector.{Vector}
use Rattle.path.specs.declared.Place.{Place}
use Rattle.path.specs.Laid.{over, non_empty, joined, starts_from, flat}

abbrev pub place : ℕ → ℕ → Place
place p q = record { points = p; starts = q }

-- the answer of a call that writes points and starts: how many of each, or the refusal
abbrev pub placed_said : Result Place Refusal → Said ℕ
placed_said r = said_by (λ p. p.points ∷ p.starts ∷ []) r

pub record Lent : Type 0 where
  pub points : List Float
  pub starts : List ℕ

abbrev pub lent : List Float → List ℕ → Lent
lent ps ss = record { points = ps; starts = ss }

abbrev pub left : Said ℕ → List Float → List ℕ → Outcome Lent
left a ps ss = leaves a (lent ps ss)

-- all points and all starts, their counts and what else is counted, the rest as it was
unfoldable pub laid : List ℕ → List (List Vector) → List Float → List ℕ → Outcome Lent
laid more ss op os =
    left (accepted (length (joined ss) ∷ length (non_empty ss) ∷ more)) (over op (flat (joined ss))) (over os (starts_from 0 (non_empty ss)))
