-- `bound_strokes` meets its contract. All strokes write at most the points counted and those of the strokes from the
-- j-th on, but for what passes the limit.
use Prim.Native.Nat.{◌+◌, ◌≤◌}
use lib.ListN.{length, drop}
use Rattle.path.specs.Laid.{joined}
use Rattle.path_chop.specs.Chop.{too_many, chopped_of}
use Rattle.path_chop.specs.InnerCounts.{capped}
use Rattle.path_chop.proofs.bound_strokes.Given as goal

abbrev pub invariant-loop-j : goal.invariant-loop-j
invariant-loop-j l = (l.n ≤ too_many) × (capped (length (joined (chopped_of l.step l.points l.starts))) ≤ capped (l.n + length (joined (chopped_of l.step l.points (drop l.j l.starts)))))
