-- What the contract of `join_segments` permits is one outcome: the place, scratch, points and starts.
use mathlib.Core.Path.{◌≡◌}
use mathlib.Core.List.{List}
use Prim.Native.Nat.{ℕ}
use lib.Ieee.{Float}
use Rattle.refusal.specs.One.{One}
use Rattle.refusal.specs.Outcome.{Outcome}
use Rattle.refusal.proofs.Outcomes.{one-outcome}
use Rattle.path.specs.declared.Place.{Place}
use Rattle.path.proofs.Places.{placed, same_place}
use Rattle.path_segments.specs.Join.{Lent, left}

abbrev lent : List ℕ → List Float → List ℕ → Lent
lent s op os = record { words = s; points = op; starts = os }

pub one-join : (x : Outcome Lent) → One (Place × List ℕ × List Float × List ℕ) (λ o. left (placed o.0) o.1 o.2 o.3 ≡ x)
one-join x r t p q =
    let e = one-outcome placed same_place x (r.0, lent r.1 r.2 r.3) (t.0, lent t.1 t.2 t.3) p q in
    λ i. ((e i).0, (e i).1.words, (e i).1.points, (e i).1.starts)
