-- `vector_good` meets its contract.
use mathlib.Core.Path.{sym, ◌∙◌}
use Rattle.mesh.specs.Meshes.{vector_good}
use Rattle.mesh.proofs.vector_good.Goals as goal

pub returns-then-not-coordinate_good : goal.returns-then-not-coordinate_good
unfolding vector_good
returns-then-not-coordinate_good c = rw (sym c.coordinate_good.ensures ∙ c.if-not-coordinate_good.true)

pub returns-then-not-coordinate_good-2 : goal.returns-then-not-coordinate_good-2
unfolding vector_good
returns-then-not-coordinate_good-2 c = rw (sym c.coordinate_good.ensures ∙ c.if-not-coordinate_good.false, sym c.coordinate_good-2.ensures ∙ c.if-not-coordinate_good-2.true)

pub returns : goal.returns
unfolding vector_good
returns c = rw (sym c.coordinate_good.ensures ∙ c.if-not-coordinate_good.false, sym c.coordinate_good-2.ensures ∙ c.if-not-coordinate_good-2.false) c.coordinate_good-3.ensures
