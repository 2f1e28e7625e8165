-- `write_forward` meets its contract. Putting the points that are left from here leaves what putting all leaves.
use mathlib.Core.Path.{◌≡◌}
use Prim.Native.Nat.{◌+◌, ◌-◌}
use Rattle.order.specs.Regions.{region, put}
use Rattle.path_splice.proofs.write_forward.Given as goal

abbrev pub invariant-loop-i : goal.invariant-loop-i
invariant-loop-i l = put l.out (l.at + l.i) (region l.points (l.a + l.i) (l.e - (l.a + l.i))) ≡ put l.initial.out l.at (region l.points l.a (l.e - l.a))
