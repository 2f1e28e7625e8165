-- `measure_strokes` meets its contract. What the strokes from the j-th on meet from here is what all meet from the
-- start, and the points left are few.
use Rattle.path_adaptive.specs.Tally.{spent_all}
use Rattle.path_adaptive.specs.Walk.{walks_of}
use Rattle.std.specs.Prelude.{Ok}
use Rattle.refusal.specs.Limits.{most_points}
use lib.ListN.{drop}
use Prim.Native.Nat.{◌≤◌}
use mathlib.Core.Path.{◌≡◌}
use Rattle.path_adaptive.proofs.measure.measure_strokes.Given as goal

abbrev pub invariant-loop-j : goal.invariant-loop-j
invariant-loop-j l = (spent_all (Ok l.s) (walks_of l.view l.points (drop l.j l.starts)) ≡ spent_all (Ok l.initial.s) (walks_of l.view l.points l.starts)) × (l.s.points ≤ most_points)
