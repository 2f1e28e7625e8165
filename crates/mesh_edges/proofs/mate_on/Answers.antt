-- `mate_on` meets its contract.
use native.Mathlib.Omega.{arith}
use mathlib.Core.Path.{refl}
use Rattle.mesh_edges.proofs.Flipping.{mate_past, mate_zero, mate_some}
use Rattle.mesh_edges.proofs.mate_on.Goals as goal

pub returns-then-n-k : goal.returns-then-n-k
returns-then-n-k c = mate_past c.args.s.now c.args.n c.requires c.args.k c.args.y c.if-n-k.true

pub returns-then-m-eq0 : goal.returns-then-m-eq0
returns-then-m-eq0 c = mate_zero c.args.s.now c.args.n c.requires c.args.k c.args.y (omega (arith, c.if-n-k.false)) c.if-m-eq0.true

pub returns : goal.returns
returns c = mate_some c.args.s.now c.args.n c.requires c.args.k c.args.y (omega (arith, c.if-n-k.false)) _ refl c.if-m-eq0.false
