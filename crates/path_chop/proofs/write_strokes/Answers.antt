use borrow.Author.Rules.{rules}
use Rattle.path_chop.proofs.Chops.{chopped-more, chopped-none}
use Rattle.path.proofs.Pushes.{push-turn, push-end, push-room, push-starts}
use Rattle.path.specs.InnerPushes.{put_points, out, push_all}
use Prim.Native.Nat.{zero-le}
use native.Mathlib.Omega.{arith}
use mathlib.Core.Path.{refl, sym, ap, ◌∙◌}
use Rattle.path_chop.proofs.write_strokes.Goals as goal

pub loop-i-init : goal.loop-i-init
loop-i-init c = (zero-le, refl, refl, refl)

pub write_stroke-p-requires : goal.write_stroke-p-requires
write_stroke-p-requires c =
    let m = chopped-more c.args.step c.args.points.now c.args.starts.now c.loop-i.i _ (search rules) c.end_of-e.ensures in
    let o = out c.loop-i.out_points c.loop-i.out_starts c.loop-i.p in
    let r = push-room put_points o _ _ _ _ (ap (push_all put_points o) (sym m) ∙ c.loop-i.invariant.3) refl in
    omega arith

pub loop-i-preserved : goal.loop-i-preserved
loop-i-preserved c =
    let m = chopped-more c.args.step c.args.points.now c.args.starts.now c.loop-i.i _ (search rules) c.end_of-e.ensures in
    (omega (arith, push-starts put_points (out c.loop-i.out_points c.loop-i.out_starts c.loop-i.p) _ _ c.write_stroke-p.ensures), cc, cc, push-turn put_points _ _ m c.write_stroke-p.ensures ∙ c.loop-i.invariant.3)

pub returns : goal.returns
returns c = sym (push-end put_points _ (chopped-none c.args.step c.args.points.now c.args.starts.now c.loop-i.i (search rules))) ∙ c.loop-i.invariant.3
