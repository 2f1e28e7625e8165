-- `gives` meets its contract: the counts tell it.
use Rattle.mesh_contour_rule.proofs.Counts.{above-counted, below-counted, none_above, none_below, both_there}
use Rattle.mesh_contour_rule.proofs.gives.Goals as goal

pub returns-then-a-eq0 : goal.returns-then-a-eq0
returns-then-a-eq0 c =
    none_above c.args.r c.args.s c.args.t (above-counted c.args.r _ c.is_above.ensures) (above-counted c.args.s _ c.is_above-2.ensures) (above-counted c.args.t _ c.is_above-3.ensures)
    (below-counted c.args.r _ c.is_below.ensures) (below-counted c.args.s _ c.is_below-2.ensures) (below-counted c.args.t _ c.is_below-3.ensures) c.if-a-eq0.true

pub returns-then-b-eq0 : goal.returns-then-b-eq0
returns-then-b-eq0 c =
    none_below c.args.r c.args.s c.args.t (above-counted c.args.r _ c.is_above.ensures) (above-counted c.args.s _ c.is_above-2.ensures) (above-counted c.args.t _ c.is_above-3.ensures)
    (below-counted c.args.r _ c.is_below.ensures) (below-counted c.args.s _ c.is_below-2.ensures) (below-counted c.args.t _ c.is_below-3.ensures) c.if-a-eq0.false c.if-b-eq0.true

pub returns : goal.returns
returns c =
    both_there c.args.r c.args.s c.args.t (above-counted c.args.r _ c.is_above.ensures) (above-counted c.args.s _ c.is_above-2.ensures) (above-counted c.args.t _ c.is_above-3.ensures)
    (below-counted c.args.r _ c.is_below.ensures) (below-counted c.args.s _ c.is_below-2.ensures) (below-counted c.args.t _ c.is_below-3.ensures) c.if-a-eq0.false c.if-b-eq0.false
