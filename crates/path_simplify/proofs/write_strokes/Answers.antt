use borrow.Author.Rules.{rules}
use Rattle.path_simplify.proofs.Totals.{thins_more, thins_none, more-points, more-distances, ends_in, short_in}
use Rattle.path.proofs.Pushes.{push-turn, push-end, push-room, push-starts}
use Rattle.path.specs.Strokes.{point_at}
use Rattle.path.specs.InnerPushes.{put_points, out, push_all}
use Rattle.path_simplify.specs.Simplify.{simplified, distances}
use Rattle.path_simplify.specs.InnerSquares.{places_in}
use Prim.Native.Nat.{ℕ, ◌/◌}
use lib.ListN.{length, get_or}
use Rattle.refusal.specs.Limits.{most_to_simplify}
use Prim.Native.Nat.{◌-◌, ◌≤◌}
use native.Mathlib.Omega.{arith}
use mathlib.Core.Path.{refl, sym, ap, ◌∙◌, subst}
use Rattle.path_simplify.proofs.write_strokes.Goals as goal

pub write_stroke-w-requires : goal.write_stroke-w-requires
write_stroke-w-requires c =
    let m = thins_more c.args.threshold (point_at c.args.points.now) (length c.args.points.now / 3) c.args.starts.now c.loop-i.i _ (search rules) c.end_of-e.ensures in
    let o = out c.loop-i.out_points c.loop-i.out_starts (places_in c.loop-i.w) in
    let room = subst (λ (k : ℕ). k ≤ length c.args.points.now / 3) (sym c.end_of-e.ensures) (ends_in (length c.args.points.now / 3) c.args.starts.now c.loop-i.i c.requires.3) in
    let r = push-room put_points o _ _ _ _ (ap (push_all put_points o) (sym (more-points m)) ∙ c.loop-i.invariant.3) refl in
    let few = subst (λ (k : ℕ). k - get_or c.args.starts.now c.loop-i.i 0 ≤ most_to_simplify) (sym c.end_of-e.ensures) (short_in (length c.args.points.now / 3) c.args.starts.now c.loop-i.i c.requires.4 (search rules)) in
    (few, omega arith, omega arith, omega (arith, more-distances m), room)

pub loop-i-preserved : goal.loop-i-preserved
loop-i-preserved c =
    let m = thins_more c.args.threshold (point_at c.args.points.now) (length c.args.points.now / 3) c.args.starts.now c.loop-i.i _ (search rules) c.end_of-e.ensures in (
      omega (arith, push-starts put_points (out c.loop-i.out_points c.loop-i.out_starts (places_in c.loop-i.w)) _ _ c.write_stroke-w.ensures.0),
      cc,
      cc,
      push-turn put_points _ _ (more-points m) c.write_stroke-w.ensures.0 ∙ c.loop-i.invariant.3,
      omega (arith, more-distances m, c.write_stroke-w.ensures.1, c.loop-i.invariant.4),
    )

pub returns : goal.returns
unfolding distances
returns c =
    let z = thins_none c.args.threshold (point_at c.args.points.now) (length c.args.points.now / 3) c.args.starts.now c.loop-i.i (search rules) in
    (sym (push-end put_points _ (ap simplified z)) ∙ c.loop-i.invariant.3, omega (arith, ap distances z, c.loop-i.invariant.4))
