-- `next_corner` meets its contract.
use mathlib.Core.Path.{sym}
use Prim.Native.Nat.{◌%◌}
use borrow.Author.Tests.{eq-eqb, ne_eqb}
use Rattle.mesh_edges.proofs.next_corner.Goals as goal

pub returns-then-k-eq2 : goal.returns-then-k-eq2
returns-then-k-eq2 c = sym (rw (eq-eqb (c.args.k % 3) 2 c.if-k-eq2.true))

pub returns : goal.returns
returns c = sym (rw (ne_eqb (c.args.k % 3) 2 c.if-k-eq2.false))
