use borrow.Author.Rules.{rules}
use Rattle.path_chop.proofs.Chops.{reach_is, spans-turn, spans-end, spans-room}
use Rattle.vector.specs.declared.Vector.{Vector}
use Rattle.vector.specs.Vectors.{sub_of}
use Rattle.path.specs.Strokes.{point_at}
use Rattle.path.specs.Courses.{course}
use native.Mathlib.Omega.{arith}
use mathlib.Core.Path.{sym, ap, ◌∙◌}
use Rattle.path_chop.proofs.write_spans.Goals as goal

pub write_span-o-requires : goal.write_span-o-requires
write_span-o-requires c = (
  c.loop-j.invariant.2 ∙ ap (λ (z : Vector). sub_of z c.loop-j.p) (sym c.point_at-q.ensures),
  c.loop-j.invariant.3,
  omega (arith, spans-room c.args.step (point_at c.args.points.now) c.loop-j.j c.args.e c.loop-j.p (search rules) _ c.point_at-q.ensures (course c.loop-j.out c.loop-j.o) (course c.args.out.now c.args.at) _ c.loop-j.invariant.1),
)

pub loop-j-preserved : goal.loop-j-preserved
loop-j-preserved c = (
  cc,
  spans-turn c.args.step (point_at c.args.points.now) c.loop-j.j c.args.e c.loop-j.p c.loop-j-test.true _ c.point_at-q.ensures (course c.loop-j.out c.loop-j.o) _ c.write_span-o.ensures ∙ c.loop-j.invariant.1,
  c.sub-w.ensures ∙ ap (λ (z : Vector). sub_of z c.point_at-q.result) c.point_at-in-loop-j.ensures,
  reach_is c.args.step _ _ _ c.length_squared-in-loop-j.ensures c.reach-m.ensures,
)

pub returns : goal.returns
returns c = sym (spans-end c.args.step (point_at c.args.points.now) c.loop-j.j c.args.e c.loop-j.p (search rules) _) ∙ c.loop-j.invariant.1
