-- `lent_verdict` meets its contract: each test is that of the definition.
use borrow.Author.Tests.{le-leb, lt-leb}
use Rattle.refusal.specs.Refusals.{unless}
use Rattle.mesh_weld.specs.Call.{lent_verdict}
use Rattle.mesh_weld.proofs.lent_verdict.Goals as goal

pub returns-then-words-faces : goal.returns-then-words-faces
unfolding lent_verdict unless
returns-then-words-faces c = simp (lt-leb _ _ c.if-words-faces.true)

pub returns-then-room-faces : goal.returns-then-room-faces
unfolding lent_verdict unless
returns-then-room-faces c = simp (le-leb _ _ c.if-words-faces.false, lt-leb _ _ c.if-room-faces.true)

pub returns-then-numbers-faces : goal.returns-then-numbers-faces
unfolding lent_verdict unless
returns-then-numbers-faces c = simp (le-leb _ _ c.if-words-faces.false, le-leb _ _ c.if-room-faces.false, lt-leb _ _ c.if-numbers-faces.true)

pub returns : goal.returns
unfolding lent_verdict unless
returns c = simp (le-leb _ _ c.if-words-faces.false, le-leb _ _ c.if-room-faces.false, le-leb _ _ c.if-numbers-faces.false)
