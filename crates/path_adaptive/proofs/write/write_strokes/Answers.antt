use borrow.Author.Rules.{rules}
use Rattle.path.proofs.Pushes.{push-turn, push-end, push-room, push-starts}
use Rattle.path.specs.InnerPushes.{put_points, out, push_all}
use Rattle.path_adaptive.specs.InnerWrite.{places_in}
use Rattle.path_adaptive.specs.declared.Adapted.{Adapted}
use Rattle.path_adaptive.proofs.Tallies.{walks_more, walks_none, more-points, more-calm, more-halvings}
use Rattle.path_adaptive.specs.Walk.{walks_of, adapted, halvings_of}
use native.Mathlib.Omega.{arith}
use mathlib.Core.Path.{sym, ap, ◌∙◌}
use Rattle.path_adaptive.proofs.write.write_strokes.Goals as goal

pub write_stroke-w-requires : goal.write_stroke-w-requires
write_stroke-w-requires c =
    let m = walks_more c.args.view.now c.args.points.now c.args.starts.now c.loop-i.i _ (search rules) c.end_of-e.ensures in
    let o = out c.loop-i.out_points c.loop-i.out_starts (places_in c.loop-i.w) in
    let r = push-room put_points o _ _ _ _ (ap (push_all put_points o) (sym (more-points m)) ∙ c.loop-i.invariant.3) (ap (λ (x : Adapted). (places_in x)) c.made_of-w.ensures) in
    (record { calm = (more-calm m c.loop-i.invariant.4).0; few = omega (arith, c.requires.1); few_halvings = omega (arith, c.requires.3, more-halvings m, c.loop-i.invariant.5) }, omega (arith, c.requires.2))

pub loop-i-preserved : goal.loop-i-preserved
loop-i-preserved c =
    let m = walks_more c.args.view.now c.args.points.now c.args.starts.now c.loop-i.i _ (search rules) c.end_of-e.ensures in (
      omega (arith, push-starts put_points (out c.loop-i.out_points c.loop-i.out_starts (places_in c.loop-i.w)) _ _ c.write_stroke-w.ensures.0),
      cc,
      cc,
      push-turn put_points _ _ (more-points m) c.write_stroke-w.ensures.0 ∙ c.loop-i.invariant.3,
      (more-calm m c.loop-i.invariant.4).1,
      omega (arith, c.write_stroke-w.ensures.1, more-halvings m, c.loop-i.invariant.5),
    )

pub returns : goal.returns
unfolding halvings_of
returns c =
    let z = walks_none c.args.view.now c.args.points.now c.args.starts.now c.loop-i.i (search rules) in
    let start = ap (λ (x : Adapted). push_all put_points (out c.args.out_points.now c.args.out_starts.now (places_in x)) (adapted (walks_of c.args.view.now c.args.points.now c.args.starts.now))) c.made_of-w.ensures in
    (sym (push-end put_points _ (ap adapted z)) ∙ c.loop-i.invariant.3 ∙ start, omega (arith, ap halvings_of z, c.loop-i.invariant.5))
