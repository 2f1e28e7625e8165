-- `strict_from` meets its contract. The words from the i-th on rise strictly above the last one passed, and stay below
-- n, where all do above s.
use mathlib.Core.Path.{◌≡◌}
use Prim.Native.Nat.{◌-◌}
use Rattle.path.specs.Strokes.{gather}
use Rattle.sheet.specs.Sheets.{word_at, strict_from}
use Rattle.sheet_read.proofs.strict_from.Given as goal

abbrev pub invariant-loop-i : goal.invariant-loop-i
invariant-loop-i l = strict_from l.n l.prev (gather (word_at l.bytes) l.i (l.e - l.i)) ≡ strict_from l.n l.s (gather (word_at l.bytes) l.a (l.e - l.a))
