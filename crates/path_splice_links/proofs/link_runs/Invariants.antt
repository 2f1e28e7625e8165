-- `link_runs` meets its contract. A run begins at p, the ends at the places before it are linked by their mirrors, and
-- no other word is changed; the places that are left fall.
use mathlib.Core.Path.{◌≡◌}
use Prim.Native.Nat.{◌-◌, ◌*◌, ◌≤◌}
use lib.ListN.{length}
use Rattle.order.specs.Regions.{region, Into}
use Rattle.path_splice_links.specs.Runs.{Linked}
use Rattle.path_splice_links.specs.Layout.{order_at, links_at, values_in, links_in}
use Rattle.path_splice_links.proofs.Running.{Edge}
use Rattle.path_splice_links.proofs.link_runs.Given as goal

abbrev pub invariant-loop-p : goal.invariant-loop-p
invariant-loop-p l = (l.p ≤ l.c) × (length l.s ≡ length l.initial.s) × (Edge (values_in l.initial.s l.n) (region l.initial.s (order_at l.n) l.c) l.p × Into l.initial.s l.s (links_at l.n) (2 * l.n) (λ ls. Linked (values_in l.initial.s l.n) (region l.initial.s (order_at l.n) l.c) (links_in l.initial.s l.n) ls l.p))

abbrev pub decreases-loop-p : goal.decreases-loop-p
decreases-loop-p l = l.c - l.p
