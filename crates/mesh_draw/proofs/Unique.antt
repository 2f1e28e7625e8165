-- What the contract of `draw` permits is one outcome: the answer, both scratches, points and starts.
use mathlib.Core.Path.{◌≡◌}
use mathlib.Core.List.{List}
use Prim.Native.Nat.{ℕ}
use lib.Ieee.{Float}
use Rattle.std.specs.Prelude.{Result}
use Rattle.refusal.specs.declared.Refusal.{Refusal}
use Rattle.refusal.specs.One.{One}
use Rattle.refusal.specs.Outcome.{Outcome}
use Rattle.refusal.proofs.Outcomes.{one-outcome}
use Rattle.path.specs.declared.Place.{Place}
use Rattle.path.specs.Call.{placed_said}
use Rattle.path.proofs.Calls.{one-place}
use Rattle.mesh_strokes.specs.Call.{Lent, lent, left}

pub one-draw : (x : Outcome Lent) → One (Result Place Refusal × List ℕ × List Float × List ℕ × List ℕ) (λ o. left (placed_said o.0) o.1 o.2 o.3 o.4 ≡ x)
one-draw x r t p q =
    let e = one-outcome placed_said one-place x (r.0, lent r.1 r.2 r.3 r.4) (t.0, lent t.1 t.2 t.3 t.4) p q in
    λ i. ((e i).0, (e i).1.words, (e i).1.seen, (e i).1.points, (e i).1.starts)
