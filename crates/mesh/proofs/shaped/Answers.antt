-- `shaped` meets its contract.
use borrow.Author.Tests.{eq-eqb, ne_eqb}
use Rattle.mesh.specs.Meshes.{shaped_of}
use Rattle.mesh.proofs.shaped.Goals as goal

pub returns-then-vertices-ne0 : goal.returns-then-vertices-ne0
unfolding shaped_of
returns-then-vertices-ne0 c = simp (ne_eqb _ _ c.if-vertices-ne0.true)

pub returns : goal.returns
unfolding shaped_of
returns c = simp (eq-eqb _ _ c.if-vertices-ne0.false)
