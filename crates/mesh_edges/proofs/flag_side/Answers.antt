-- `flag_side` meets its contract.
use native.Mathlib.Omega.{arith}
use mathlib.Core.Path.{sym, ◌∙◌}
use Rattle.mesh_edges.proofs.Flipping.{side-no, side-within, side-yes}
use Rattle.mesh_edges.proofs.flag_side.Goals as goal

pub overflow_add-s : goal.overflow_add-s
overflow_add-s c = omega (arith, side-within c.args.s.now c.args.n c.requires c.args.k c.args.y (sym c.mate_on.ensures ∙ c.if-mate_on.true))

pub offset_bounds-s-n : goal.offset_bounds-s-n
offset_bounds-s-n c = omega (arith, side-within c.args.s.now c.args.n c.requires c.args.k c.args.y (sym c.mate_on.ensures ∙ c.if-mate_on.true))

pub bounds-s-n : goal.bounds-s-n
bounds-s-n c = omega (arith, side-within c.args.s.now c.args.n c.requires c.args.k c.args.y (sym c.mate_on.ensures ∙ c.if-mate_on.true))

pub returns-then-mate_on : goal.returns-then-mate_on
returns-then-mate_on c = side-yes c.args.s.now c.args.n c.requires c.args.k c.args.y (sym c.mate_on.ensures ∙ c.if-mate_on.true)

pub returns-else-mate_on : goal.returns-else-mate_on
returns-else-mate_on c = side-no c.args.s.now c.args.n c.requires c.args.k c.args.y (sym c.mate_on.ensures ∙ c.if-mate_on.false)
