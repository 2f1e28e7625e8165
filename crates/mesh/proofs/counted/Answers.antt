-- `counted` meets its contract.
use borrow.Author.Tests.{le-leb, lt-leb}
use Rattle.mesh.specs.Meshes.{counted_of}
use Rattle.mesh.proofs.counted.Goals as goal

pub returns-then-vertices-gt-MOST_VERTICES : goal.returns-then-vertices-gt-MOST_VERTICES
unfolding counted_of
returns-then-vertices-gt-MOST_VERTICES c = simp (lt-leb _ _ c.if-vertices-gt-MOST_VERTICES.true)

pub returns : goal.returns
unfolding counted_of
returns c = simp (le-leb _ _ c.if-vertices-gt-MOST_VERTICES.false)
