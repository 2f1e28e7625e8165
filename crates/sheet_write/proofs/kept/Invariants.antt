-- `kept` meets its contract. Those counted and those with points from the i-th on are all that have points.
use mathlib.Core.Path.{◌≡◌}
use Prim.Native.Nat.{◌+◌, ◌≤◌}
use lib.ListN.{length, drop}
use Rattle.sheet.specs.InnerKept.{kept_from}
use Rattle.sheet_write.proofs.kept.Given as goal

abbrev pub invariant-loop-i : goal.invariant-loop-i
invariant-loop-i l = (l.k ≤ l.i) × (l.k + length (kept_from l.n (drop l.i l.starts)) ≡ length (kept_from l.n l.starts))
