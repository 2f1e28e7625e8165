-- `measure_spans` meets its contract. What the spans from place j on meet from here is what all spans meet from the
-- start.
use Rattle.path.specs.Strokes.{point_at, gather}
use Rattle.path_adaptive.specs.Tally.{spent}
use Rattle.path_adaptive.specs.Walk.{walk_from}
use Rattle.path_adaptive.specs.InnerMeasure.{tally_of}
use Prim.Native.Nat.{ℕ, ◌-◌}
use mathlib.Core.Path.{◌≡◌}
use Rattle.path_adaptive.proofs.measure.measure_spans.Given as goal

abbrev pub invariant-loop-j : goal.invariant-loop-j
invariant-loop-j l = (s : ℕ) → spent (tally_of l.k s) (walk_from l.view l.p (gather (point_at l.points) l.j (l.e - l.j))) ≡ spent (tally_of l.initial.k s) (walk_from l.view l.initial.p (gather (point_at l.points) l.i (l.e - l.i)))
