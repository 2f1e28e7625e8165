-- `mirror_run` meets its contract. The ends at the places from p up to x are linked by their mirrors in the run, and no
-- other word is changed.
use Prim.Native.Nat.{◌*◌, ◌≤◌}
use Rattle.order.specs.Regions.{region, Into}
use Rattle.path_splice_links.specs.Runs.{Mirrored}
use Rattle.path_splice_links.specs.Layout.{order_at, links_at, links_in}
use Rattle.path_splice_links.proofs.mirror_run.Given as goal

abbrev pub invariant-loop-x : goal.invariant-loop-x
invariant-loop-x l = (l.p ≤ l.x) × Into l.initial.s l.s (links_at l.n) (2 * l.n) (λ ls. Mirrored (region l.initial.s (order_at l.n) l.c) (links_in l.initial.s l.n) ls l.p l.q l.x)
