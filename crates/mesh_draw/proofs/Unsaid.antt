-- A drawing with 0 is a drawing with 2.
use mathlib.Core.Path.{refl}
use mathlib.Core.List.{List}
use Prim.Native.Nat.{ℕ}
use lib.Ieee.{Float}
use Rattle.vector.specs.declared.Vector.{Vector}
use Rattle.mesh_mode.specs.Modes.{mode_of}
use Rattle.mesh_strokes.specs.Call.{Lent}
use Rattle.mesh_draw.specs.Call.{numbers_good, work_verdict, verdict_of, draw_left}
use Rattle.mesh_draw.specs.Unsaid.{UnsaidDraws}

pub unsaid_draws : (vs : List Float) (is flips : List ℕ) (cosine : Float) (eye : Vector) (tolerance : Float) (l : Lent) → UnsaidDraws vs is flips cosine eye tolerance l
unfolding draw_left verdict_of work_verdict numbers_good mode_of
unsaid_draws vs is flips cosine eye tolerance l = refl
