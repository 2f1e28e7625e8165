-- `place` meets its contract: by its two tests.
use Prim.Native.Nat.{◌+◌}
use native.Mathlib.Omega.{arith}
use borrow.Author.Tests.{le-leb, lt-leb}
use Rattle.mesh_weld.specs.InnerTable.{place_of}
use Rattle.mesh_weld.proofs.place.Goals as goal

pub returns-then-w-x : goal.returns-then-w-x
unfolding place_of
returns-then-w-x c = (rw (le-leb c.args.x (c.args.w + 1) c.if-x-w.true, le-leb c.args.w (c.args.x + 1) c.if-w-x.true), omega arith)

pub returns-else-w-x : goal.returns-else-w-x
unfolding place_of
returns-else-w-x c = (rw (le-leb c.args.x (c.args.w + 1) (omega arith), lt-leb c.args.w (c.args.x + 1) (omega arith)), omega arith)

pub returns-else-x-w : goal.returns-else-x-w
unfolding place_of
returns-else-x-w c = (rw (lt-leb c.args.x (c.args.w + 1) (omega arith)), omega arith)
