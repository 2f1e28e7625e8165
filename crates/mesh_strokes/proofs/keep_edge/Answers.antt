-- `keep_edge` meets its contract.
use native.Mathlib.Omega.{arith}
use mathlib.Core.Path.{sym, ◌∙◌}
use Rattle.mesh_strokes.proofs.Walks.{edge_yes, edge_no}
use Rattle.mesh_strokes.proofs.keep_edge.Goals as goal

pub returns-then-keeps : goal.returns-then-keeps
returns-then-keeps c = record { s_after = edge_yes _ c.args.s.now _ c.args.n _ c.args.m (sym c.keeps.ensures ∙ c.if-keeps.true) c.put_pair.ensures; upper_bound = omega arith }

pub returns : goal.returns
returns c = record { s_after = edge_no _ c.args.s.now c.args.n _ c.args.m (sym c.keeps.ensures ∙ c.if-keeps.false); upper_bound = omega arith }
