-- A mode that nobody says is polygonal: a drawing with 0 is a drawing with 2, its answer and every element that it leaves.
-- proofs/Unsaid proves it.
use Rattle.std.specs.Prelude.{◌≡◌, List, ℕ, Float}
use Rattle.vector.specs.declared.Vector.{Vector}
use Rattle.mesh_strokes.specs.Call.{Lent}
use Rattle.mesh_draw.specs.Call.{sight, draw_left}

abbrev pub UnsaidDraws : List Float → List ℕ → List ℕ → Float → Vector → Float → Lent → Type 0
UnsaidDraws vs is flips cosine eye tolerance l = draw_left vs is flips (sight 0 cosine eye tolerance) l ≡ draw_left vs is flips (sight 2 cosine eye tolerance) l
