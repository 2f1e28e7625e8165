-- `write_spans` meets its contract. The spans from place j on fit after the mark, and writing them from here leaves
-- what writing all leaves.
use Rattle.path.specs.Strokes.{point_at, gather}
use Rattle.path_adaptive.specs.Walk.{walk_from}
use Rattle.path_adaptive.specs.InnerWrite.{Fits}
use Rattle.path_adaptive.proofs.Inks.{Rest}
use lib.ListN.{length}
use Prim.Native.Nat.{◌-◌}
use mathlib.Core.Path.{◌≡◌}
use Rattle.path_adaptive.proofs.write.write_spans.Given as goal

abbrev pub invariant-loop-j : goal.invariant-loop-j
invariant-loop-j l = let w = walk_from l.view l.p (gather (point_at l.points) l.j (l.e - l.j)) in
    (length l.out ≡ length l.initial.out) × Fits w l.k × Rest (walk_from l.view l.initial.p (gather (point_at l.points) l.i (l.e - l.i))) l.initial.out l.initial.k w l.out l.k
