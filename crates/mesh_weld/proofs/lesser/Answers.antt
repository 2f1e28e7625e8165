-- `lesser` meets its contract: by its test.
use borrow.Author.Tests.{lt-ltb, le-ltb}
use Rattle.mesh_weld.specs.InnerTable.{lesser_of}
use Rattle.mesh_weld.proofs.lesser.Goals as goal

pub returns-then-a-b : goal.returns-then-a-b
unfolding lesser_of
returns-then-a-b c = rw (lt-ltb c.args.a c.args.b c.if-a-b.true)

pub returns-else-a-b : goal.returns-else-a-b
unfolding lesser_of
returns-else-a-b c = rw (le-ltb c.args.a c.args.b c.if-a-b.false)
