-- `write_stroke` meets its contract.
use Rattle.path_simplify.proofs.Totals.{thinned-none, thinned-length}
use Rattle.path.proofs.Pushes.{push-none, push-course}
use Rattle.path.specs.Strokes.{point_at}
use Rattle.path.specs.InnerPushes.{put_points, out}
use Rattle.path_simplify.specs.Simplify.{Thin}
use Rattle.path_simplify.specs.InnerSquares.{places_in}
use lib.ListN.{length}
use native.Mathlib.Omega.{arith}
use mathlib.Core.Path.{sym, ap}
use Rattle.path_simplify.proofs.write_stroke.Goals as goal

pub returns-then-e-a : goal.returns-then-e-a
returns-then-e-a c =
    let z = thinned-none c.args.threshold (point_at c.args.points.now) c.args.a c.args.e c.if-e-a.true in
    (sym (push-none put_points _ _ (ap (λ (x : Thin). length x.points) z)), omega (arith, ap (λ (x : Thin). x.measured) z))

pub returns : goal.returns
returns c =
    let at = point_at c.args.points.now in (
      rw c.put.ensures
          (push-course put_points (out c.args.out_points.now c.args.out_starts.now (places_in c.args.w)) _ (omega (arith, thinned-length c.args.threshold at c.args.a c.args.e (omega arith))) _ _ c.write_thinned.ensures.0),
      omega (arith, c.write_thinned.ensures.2),
    )
