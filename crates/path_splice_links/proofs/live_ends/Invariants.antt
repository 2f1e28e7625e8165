-- `live_ends` meets its contract. Of the ends below e those of strokes that are there are written, k of them, and no
-- other word is changed.
use Prim.Native.Nat.{◌*◌, ◌≤◌}
use Rattle.order.specs.Regions.{region, Into}
use Rattle.path_splice_links.specs.Layout.{order_at, todo_in}
use Rattle.path_splice_links.proofs.Lives.{Living}
use Rattle.path_splice_links.proofs.live_ends.Given as goal

abbrev pub invariant-loop-e : goal.invariant-loop-e
invariant-loop-e l = (l.k ≤ l.e) × Into l.initial.s l.s (order_at l.n) (2 * l.n) (λ a. Living (todo_in l.initial.s l.n) (region l.initial.s (order_at l.n) (2 * l.n)) a l.e l.k)
