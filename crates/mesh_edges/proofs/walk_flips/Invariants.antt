-- `walk_flips` meets its contract. Flagging the flips that are left from here leaves the flags that flagging all leaves.
use Rattle.std.proofs.Common.{◌≡◌, ◌*◌}
use Rattle.order.specs.Regions.{region, Into}
use Rattle.mesh_edges.specs.InnerSteps.{flag_all}
use Rattle.mesh_edges.proofs.walk_flips.Given as goal

abbrev pub invariant-loop-pair : goal.invariant-loop-pair
invariant-loop-pair l = (l.pair-iterator.size ≡ 2) × Into l.initial.s l.s (4 * l.n) l.n (λ f. flag_all (region l.initial.s (3 * l.n) l.n) l.pair-iterator.rest.now f ≡ flag_all (region l.initial.s (3 * l.n) l.n) l.flips (region l.initial.s (4 * l.n) l.n))
