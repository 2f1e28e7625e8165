use Rattle.std.proofs.Common.{◌<◌, refl, arith}
use Rattle.path_classes.proofs.Labels.{labelled_none, labelled-more, labelled_all, next-is}
use Rattle.path_classes.proofs.label.Goals as goal

pub loop-x-init : goal.loop-x-init
loop-x-init c = labelled_none _ _ _

pub bounds-s-e : goal.bounds-s-e
bounds-s-e c =
    let h : c.loop-x.x < c.args.m = omega arith in
    omega (arith, c.loop-x.invariant.aside.size, next-is c.args.points.now c.args.m c.args.s.now c.requires.m_bound.1 c.requires.together c.loop-x.s c.loop-x.x c.loop-x.c c.loop-x.invariant h, c.requires.together.each c.loop-x.x h)

pub loop-x-preserved : goal.loop-x-preserved
loop-x-preserved c = labelled-more c.args.points.now c.args.m c.args.s.now c.requires.m_bound.1 c.requires.together c.loop-x.s c.loop-x.x c.loop-x.c c.loop-x.invariant (omega arith) _ c.class_after-c.result refl c.class_after-c.ensures

pub returns : goal.returns
returns c = (c.loop-x.invariant.aside, labelled_all c.args.points.now c.args.m c.args.s.now c.requires.m_bound.1 c.requires.together c.loop-x.s c.loop-x.x c.loop-x.c (omega arith) c.loop-x.invariant)
