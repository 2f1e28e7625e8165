-- Demand 3 for every drawing, over its kept edges.
use mathlib.Core.List.{List}
use Prim.Native.Nat.{ℕ}
use lib.Dec.{eqb}
use lib.Ieee.{Float}
use Rattle.vector.specs.declared.Vector.{Vector}
use Rattle.path_splice_rule.specs.Demand.{Demand3}
use Rattle.path_splice_rule.proofs.Numbers.{on-numbers}
use Rattle.mesh_mode.specs.declared.Mode.{Mode}
use Rattle.mesh_strokes.specs.Draw.{kept_of, drawing_of}

-- each kept edge once and none invented; then as few open strokes as those edges allow
pub drawing_demand3 : (mode : Mode) (eye : Vector) (tolerance : Float) (flips : List ℕ) (vs : List Float) (is : List ℕ) → Demand3 eqb (kept_of mode eye tolerance flips vs is) (drawing_of mode eye tolerance flips vs is)
unfolding drawing_of
drawing_demand3 mode eye tolerance flips vs is = on-numbers (kept_of mode eye tolerance flips vs is)
