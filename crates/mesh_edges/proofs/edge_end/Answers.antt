-- `edge_end` meets its contract.
use native.Mathlib.Omega.{arith}
use Rattle.mesh_edges.proofs.Ends.{end_past, end_short}
use Rattle.mesh_edges.proofs.edge_end.Goals as goal

pub returns-then-n-p : goal.returns-then-n-p
returns-then-n-p c = end_past c.args.s.now c.args.n c.args.p c.if-n-p.true

pub returns-then-s-n : goal.returns-then-s-n
returns-then-s-n c = end_short c.args.s.now c.args.n c.args.p (omega (arith, c.if-s-n.true))
