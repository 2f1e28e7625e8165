-- `rising` meets its contract. The starts from the i-th on are good after the last one passed where all are good from
-- the first; the starts that are left fall.
use Rattle.path.specs.Strokes.{good_from, good_starts}
use lib.ListN.{length, drop}
use Prim.Native.Nat.{◌≤◌}
use mathlib.Core.Path.{◌≡◌}
use Rattle.path.proofs.rising.Given as goal

abbrev pub invariant-loop-i : goal.invariant-loop-i
invariant-loop-i l = (l.i ≤ length l.starts) × (good_from l.n l.prev (drop l.i l.starts) ≡ good_starts l.n l.starts)
