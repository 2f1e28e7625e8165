-- `run` meets its contract. The stroke of e is still to do, and the chain walked so far with the one from e on is the
-- chain from the start; the room for ends that is left falls.
use mathlib.Core.Path.{◌≡◌}
use Prim.Native.Nat.{◌-◌, ◌*◌, ◌<◌, ◌≤◌}
use lib.ListN.{length}
use Rattle.order.specs.Regions.{region, Into2}
use Rattle.path_splice_links.specs.Layout.{order_at, todo_at, links_in, todo_in}
use Rattle.path_splice_links.proofs.Loop.{Walking}
use Rattle.path_splice_links.proofs.run.Given as goal

abbrev pub invariant-loop-g : goal.invariant-loop-g
invariant-loop-g l = (l.e.0 < 2 * l.n) × (l.k < l.n) × (l.f ≤ 1) × (length l.s ≡ length l.initial.s) × Into2 l.initial.s l.s (todo_at l.n) l.n (order_at l.n) l.n (λ t o. Walking (links_in l.initial.s l.n) (todo_in l.initial.s l.n) (region l.initial.s (order_at l.n) l.n) l.at l.initial.e.0 t o l.e.0 l.k l.f)

abbrev pub decreases-loop-g : goal.decreases-loop-g
decreases-loop-g l = l.n - l.k
