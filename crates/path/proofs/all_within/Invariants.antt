-- `all_within` meets its contract. Those before i were all good where none was counted as bad, and with those
-- from i on they decide what all decide; the numbers that are left fall.
use mathlib.Core.Bool.{◌&&◌}
use mathlib.Core.Path.{◌≡◌}
use Prim.Native.Nat.{◌≤◌}
use lib.ListN.{drop}
use lib.Dec.{eqb}
use Rattle.path.specs.Tests.{all_within}
use Rattle.path.proofs.all_within.Given as goal

abbrev pub invariant-loop-x : goal.invariant-loop-x
invariant-loop-x l = (l.bad ≤ l.x-index) × (eqb l.bad 0 && all_within l.most (drop l.x-index l.xs) ≡ all_within l.most l.xs)
