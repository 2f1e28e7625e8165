-- `find` meets its contract: the least that a vertex is worth tells its number, and the top that there is none.
use mathlib.Core.Path.{◌∙◌}
use native.Mathlib.Omega.{arith}
use Rattle.mesh_weld.proofs.Cells.{counted-at}
use Rattle.mesh_weld.proofs.Ranks.{found, found_at_lem, found_none}
use Rattle.mesh_weld.proofs.find.Goals as goal

pub returns-then-r-lt-TOP : goal.returns-then-r-lt-TOP
returns-then-r-lt-TOP c = found_at_lem c.look-r.result c.if-r-lt-TOP.true ∙ found c.args.vertices.now c.args.p c.args.c c.args.g.count c.look-r.result c.args.g.small c.requires.c_value (counted-at c.args.p c.requires.c_value) c.look-r.ensures

pub returns : goal.returns
returns c = found_none c.look-r.result (omega arith) ∙ found c.args.vertices.now c.args.p c.args.c c.args.g.count c.look-r.result c.args.g.small c.requires.c_value (counted-at c.args.p c.requires.c_value) c.look-r.ensures
