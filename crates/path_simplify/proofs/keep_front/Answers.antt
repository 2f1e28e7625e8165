-- `keep_front` meets its contract.
use mathlib.Core.Path.{ap}
use native.Mathlib.Omega.{arith}
use lib.ListN.{length}
use Rattle.path.specs.Strokes.{point_at}
use Rattle.path_simplify.specs.Simplify.{Thin}
use Rattle.path_simplify.proofs.Thins.{thin-none}
use Rattle.path_simplify.proofs.Noted.{none-noted}
use Rattle.path_simplify.proofs.keep_front.Goals as goal

pub returns-then-hi-lo : goal.returns-then-hi-lo
returns-then-hi-lo c =
    let z = thin-none c.args.threshold (point_at c.args.points.now) c.args.lo c.args.hi c.if-hi-lo.true in
    (none-noted _ _ z, omega (arith, ap (λ (x : Thin). length x.points) z))
