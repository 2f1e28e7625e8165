-- `write_mates` meets its contract. Marking the groups from place p on from here leaves what marking all leaves; the
-- places that are left fall.
use mathlib.Core.Path.{◌≡◌}
use Prim.Native.Nat.{◌-◌, ◌*◌, ◌≤◌}
use lib.ListN.{length, drop}
use Rattle.order.specs.Regions.{region, Into}
use Rattle.mesh_edges.specs.Edges.{groups_of}
use Rattle.mesh_edges.specs.InnerWords.{pair_in}
use Rattle.mesh_edges.specs.InnerSteps.{marks}
use Rattle.mesh_edges.proofs.write_mates.Given as goal

abbrev pub invariant-loop-p : goal.invariant-loop-p
invariant-loop-p l = (l.p ≤ l.n) × (length l.s ≡ length l.initial.s) × Into l.initial.s l.s (3 * l.n) l.n (λ m. marks (groups_of (pair_in l.initial.s l.n) (drop l.p (region l.initial.s (2 * l.n) l.n))) m ≡ marks (groups_of (pair_in l.initial.s l.n) (region l.initial.s (2 * l.n) l.n)) (region l.initial.s (3 * l.n) l.n))

abbrev pub decreases-loop-p : goal.decreases-loop-p
decreases-loop-p l = l.n - l.p
