-- `number_points` meets its contract.
use Rattle.std.proofs.Common.{◌*◌, ◌≤◌, length, arith}
use Rattle.order.proofs.Parts.{cleared}
use Rattle.path_classes.proofs.Labels.{too_many_lem, too_few, numbered_is}
use Rattle.path_classes.proofs.number_points.Goals as goal

pub returns-then-m : goal.returns-then-m
returns-then-m c = too_many_lem _ _ _ c.if-m.true

pub returns-then-s-m : goal.returns-then-s-m
returns-then-s-m c = too_few _ _ _ c.if-m.false c.if-s-m.true

pub returns : goal.returns
returns c =
    let h : 6 * c.args.m ≤ length c.args.s.now = c.if-s-m.false in
    numbered_is c.args.points.now c.args.m c.args.s.now c.if-m.false h c.line_up.new.s c.label.new.s _ c.line_up.ensures.0 c.label.ensures.0 c.label.ensures.1
    (cleared c.label.new.s c.args.m (5 * c.args.m) (6 * c.args.m) (omega arith) (omega (arith, c.line_up.ensures.0.size, c.label.ensures.0.size)) c.clear.new.s c.clear.ensures)
