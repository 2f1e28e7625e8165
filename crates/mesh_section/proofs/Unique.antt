-- What the contract of `section` permits is one answer and one content of everything lent.
use mathlib.Core.Path.{◌≡◌}
use mathlib.Core.List.{List}
use Prim.Native.Nat.{ℕ}
use lib.Ieee.{Float}
use Rattle.std.specs.Prelude.{Result}
use Rattle.refusal.specs.declared.Refusal.{Refusal}
use Rattle.refusal.specs.One.{One}
use Rattle.path.specs.declared.Place.{Place}
use Rattle.path.specs.Call.{left, placed_said}
use Rattle.path.proofs.Calls.{one_left, one-place}
use Rattle.mesh_section.specs.declared.Plane.{Plane}
use Rattle.mesh_section.specs.Call.{section_left}

pub one-section : (vs : List Float) (is : List ℕ) (p : Plane) (tolerance : Float) (op : List Float) (os : List ℕ)
    → One (Result Place Refusal × List Float × List ℕ) (λ o. left (placed_said o.0) o.1 o.2 ≡ section_left vs is p tolerance op os)
one-section vs is p tolerance op os = one_left placed_said one-place (section_left vs is p tolerance op os)
