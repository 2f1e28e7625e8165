-- `reaches` meets its contract.
use lib.ListN.{length}
use Prim.Native.Nat.{◌*◌}
use borrow.Author.Tests.{le-leb, lt-leb}
use Rattle.mesh.specs.Meshes.{reach_of}
use Rattle.mesh.proofs.reaches.Goals as goal

pub returns-then-indices-n : goal.returns-then-indices-n
unfolding reach_of
returns-then-indices-n c = rw (lt-leb (c.args.n * 3) (length c.args.indices.now) c.if-indices-n.true)

pub returns : goal.returns
unfolding reach_of
returns c = rw (le-leb (c.args.n * 3) (length c.args.indices.now) c.if-indices-n.false) c.all_below.ensures
