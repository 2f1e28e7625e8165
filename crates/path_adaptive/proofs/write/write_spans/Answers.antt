use borrow.Author.Rules.{rules}
use Rattle.path.specs.Strokes.{point_at}
use Rattle.path_adaptive.specs.Walk.{shown_of}
use Rattle.path_adaptive.proofs.Walks.{join-both, from_more, from-none}
use Rattle.path_adaptive.proofs.Inks.{left-fits, right_fits, rest_turn, rest_end}
use native.Mathlib.Omega.{arith}
use mathlib.Core.Path.{refl, ap, ◌∙◌}
use Rattle.path_adaptive.proofs.write.write_spans.Goals as goal

pub write_span-k-requires : goal.write_span-k-requires
write_span-k-requires c =
    let b = join-both _ _ _ (from_more c.args.view.now (point_at c.args.points.now) c.loop-j.j c.args.e c.loop-j.p _ (search rules) (c.show-q.ensures ∙ ap (shown_of c.args.view.now) c.point_at.ensures)) c.loop-j.invariant.1.calm in
    left-fits b refl (omega arith) c.loop-j.invariant.1

pub loop-j-preserved : goal.loop-j-preserved
loop-j-preserved c =
    let b = join-both _ _ _ (from_more c.args.view.now (point_at c.args.points.now) c.loop-j.j c.args.e c.loop-j.p _ (search rules) (c.show-q.ensures ∙ ap (shown_of c.args.view.now) c.point_at.ensures)) c.loop-j.invariant.1.calm in
    (cc, right_fits b refl (omega arith) c.loop-j.invariant.1 c.write_span-k.ensures, rest_turn b c.write_span-k.ensures c.loop-j.invariant.2)

pub returns : goal.returns
returns c = rest_end (from-none c.args.view.now (point_at c.args.points.now) c.loop-j.j c.args.e c.loop-j.p (search rules)) c.loop-j.invariant.2
