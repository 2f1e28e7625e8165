-- What the contract of `draw_strokes` permits is one outcome: the place, both scratches, points and starts.
use mathlib.Core.Path.{◌≡◌}
use Rattle.refusal.specs.One.{One}
use Rattle.refusal.specs.Outcome.{Outcome, leaves}
use Rattle.refusal.proofs.Outcomes.{one-outcome}
use Rattle.path.specs.declared.Place.{Place}
use Rattle.path.proofs.Places.{placed, same_place}
use Rattle.mesh_strokes.specs.Call.{Lent}

pub one-drawing : (x : Outcome Lent) → One (Place × Lent) (λ o. leaves (placed o.0) o.1 ≡ x)
one-drawing = one-outcome placed same_place
