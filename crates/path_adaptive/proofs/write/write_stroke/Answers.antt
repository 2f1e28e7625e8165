-- `write_stroke` meets its contract.
use Rattle.path.proofs.Pushes.{push-none, push-course}
use Rattle.path.specs.InnerPushes.{put_points, out}
use Rattle.path.specs.Strokes.{point_at}
use Rattle.path_adaptive.specs.InnerWrite.{places_in}
use Rattle.path_adaptive.specs.declared.Adapted.{Adapted}
use Rattle.path_adaptive.specs.Walk.{shown_of, Walk, one_point}
use Rattle.path_adaptive.proofs.Walks.{join-both, stroke_none, stroke_some}
use lib.ListN.{length}
use native.Mathlib.Omega.{arith}
use mathlib.Core.Path.{refl, sym, ap, ◌∙◌}
use Rattle.path_adaptive.proofs.write.write_stroke.Goals as goal

pub returns-then-e-a : goal.returns-then-e-a
returns-then-e-a c =
    let z = stroke_none c.args.view.now (point_at c.args.points.now) c.args.a c.args.e c.if-e-a.true in
    (sym (push-none put_points _ _ (ap (λ (x : Walk). length x.points) z)), omega (arith, ap (λ (x : Walk). x.halvings) z))

pub returns : goal.returns
returns c =
    let at = point_at c.args.points.now in
    let w = stroke_some c.args.view.now at c.args.a c.args.e (at c.args.a) (shown_of c.args.view.now (at c.args.a)) (omega (arith, c.if-e-a.false)) refl refl in
    let b = join-both (one_point (at c.args.a)) _ _ w c.requires.0.calm in
    (rw (c.made_of.ensures, c.put.ensures) (push-course put_points (out c.args.out_points.now c.args.out_starts.now (places_in c.args.w)) _ (omega (arith, b.length_is)) _ _ c.write_adapted-m.ensures.ink), ap (λ (x : Adapted). x.halvings) c.made_of.ensures ∙ c.write_adapted-m.ensures.count)
