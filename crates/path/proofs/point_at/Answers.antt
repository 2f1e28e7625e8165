-- `point_at` meets its contract.
use mathlib.Core.Path.{refl}
use Rattle.path.specs.Strokes.{point_at}
use Rattle.path.proofs.point_at.Goals as goal

pub returns-then-i-points : goal.returns-then-i-points
unfolding point_at
returns-then-i-points c = refl
