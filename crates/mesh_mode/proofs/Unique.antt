-- A mode that is answered is told by what is said of it.
use mathlib.Core.Path.{◌≡◌}
use Prim.Native.Nat.{ℕ}
use lib.Ieee.{Float}
use Rattle.std.specs.Prelude.{Result}
use Rattle.refusal.specs.declared.Refusal.{Refusal}
use Rattle.refusal.specs.Said.{value_said}
use Rattle.refusal.specs.One.{One}
use Rattle.refusal.proofs.Unique.{one-value, one-read}
use Rattle.mesh_mode.specs.declared.Mode.{Mode}
use Rattle.mesh_mode.specs.Modes.{mode_of}

pub one-mode : (n : ℕ) (c : Float) → One (Result Mode Refusal) (λ r. value_said r ≡ mode_of n c)
one-mode n c = one-read value_said one-value (mode_of n c)
