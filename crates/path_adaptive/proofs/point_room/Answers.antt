-- `point_room` meets its contract.
use Rattle.path_adaptive.specs.Call.{point_room}
use native.Mathlib.Nat.{min-eq_left, min-eq_right}
use native.Mathlib.Omega.{arith}
use mathlib.Core.Path.{sym}
use Rattle.path_adaptive.proofs.point_room.Goals as goal

pub returns-then-n-gt-MOST_POINTS : goal.returns-then-n-gt-MOST_POINTS
unfolding point_room
returns-then-n-gt-MOST_POINTS c = sym (min-eq_right (omega arith))

pub returns : goal.returns
unfolding point_room
returns c = sym (min-eq_left (omega arith))
