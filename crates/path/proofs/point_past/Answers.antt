-- `point_past` meets its contract.
use Rattle.path.proofs.Points.{point_at-out}
use Rattle.path.specs.Strokes.{point_at}
use mathlib.Core.Path.{sym}
use Rattle.path.proofs.point_past.Goals as goal

pub returns-then-points-i : goal.returns-then-points-i
returns-then-points-i c = rw c.nothing-x.ensures (sym (point_at-out c.args.points.now c.args.i c.if-points-i.true))

pub returns : goal.returns
unfolding point_at
returns c = cc
