-- `walk_pass` meets its contract. The chains drawn so far and those of the strokes from the i-th on are those of all
-- strokes.
use Rattle.order.specs.Regions.{Into2}
use Rattle.path_splice_links.specs.Layout.{order_at, todo_at}
use Rattle.path_splice_links.proofs.Threads.{Passing}
use Rattle.path_splice_links.proofs.walk_pass.Given as goal

abbrev pub invariant-loop-i : goal.invariant-loop-i
invariant-loop-i l = Into2 l.initial.s l.s (todo_at l.n) l.n (order_at l.n) l.n (Passing l.initial.s l.n l.at l.rings l.i l.k)
