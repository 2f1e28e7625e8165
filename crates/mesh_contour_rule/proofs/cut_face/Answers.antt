-- `cut_face` meets its contract: where it gives a segment the two places are all that is met.
use Rattle.mesh_contour_rule.proofs.Around.{cuts_none, cuts}
use Rattle.mesh_contour_rule.proofs.cut_face.Goals as goal

pub returns-then-not-gives : goal.returns-then-not-gives
returns-then-not-gives c = cuts_none c.args.a c.args.b c.args.c c.gives.ensures c.if-not-gives.true

pub returns : goal.returns
returns c =
    cuts c.args.a c.args.b c.args.c c.gives.ensures c.if-not-gives.false c.first_met.ensures c.unsigned_point.ensures
    c.last_met.ensures c.unsigned_point-2.ensures
