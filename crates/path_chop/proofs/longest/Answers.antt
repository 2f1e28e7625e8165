use native.Mathlib.Omega.{arith}
use native.Mathlib.Nat.{le_refl}
use Rattle.path.specs.Strokes.{point_at}
use Rattle.path_chop.proofs.Bounds.{larger_reaches, zero_root, longest_start, longest_turn, longest_end, squared_fits}
use Rattle.path_chop.proofs.longest.Goals as goal

pub loop-j-init : goal.loop-j-init
loop-j-init c = (le_refl c.args.i, omega arith, zero_root, λ step. longest_start c.args.i _ _)

pub loop-j-preserved : goal.loop-j-preserved
loop-j-preserved c =
    let v = c.sub.result in
    let f = squared_fits v _ c.length_squared.ensures in
    let r = larger_reaches c.loop-j.most _ _ c.loop-j.invariant.2 f c.larger-most.ensures in (
      omega arith,
      omega arith,
      r.has_root,
      λ step. longest_turn step (point_at c.args.points.now) c.args.i c.loop-j.j c.args.e _ c.loop-j.p _ v c.loop-j.most _ _ c.loop-j.invariant.0 c.loop-j-test.true c.point_at-q.ensures c.sub.ensures c.length_squared.ensures r (c.loop-j.invariant.3 step),
    )

pub returns : goal.returns
returns c = λ step. longest_end step (point_at c.args.points.now) c.args.i c.loop-j.j c.args.e _ c.loop-j.p c.loop-j.most c.loop-j-test.false c.loop-j.invariant.1 (c.loop-j.invariant.3 step)
