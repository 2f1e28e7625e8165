-- `fill_pairs` meets its contract. The strokes below i are there and begin where their pair lies, and no other word is
-- changed.
use Prim.Native.Nat.{◌*◌}
use Rattle.order.specs.Regions.{Into2}
use Rattle.path_splice.specs.InnerPairs.{Paired}
use Rattle.path_splice.proofs.fill_pairs.Given as goal

abbrev pub invariant-loop-i : goal.invariant-loop-i
invariant-loop-i l = Into2 l.initial.s l.s (6 * l.n) l.n (7 * l.n) l.n (Paired l.i)
