-- `write_backward` meets its contract. Putting the points that are left, the last first, from here leaves what putting
-- all leaves.
use mathlib.Core.Path.{◌≡◌}
use Prim.Native.Nat.{◌+◌, ◌-◌}
use Rattle.order.specs.Regions.{region, put}
use mathlib.Core.List.{reverse}
use Rattle.path_splice.proofs.write_backward.Given as goal

abbrev pub invariant-loop-i : goal.invariant-loop-i
invariant-loop-i l = put l.out (l.at + l.i) (reverse (region l.points l.a (l.e - l.i - l.a))) ≡ put l.initial.out l.at (reverse (region l.points l.a (l.e - l.a)))
