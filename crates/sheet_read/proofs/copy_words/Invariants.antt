-- `copy_words` meets its contract. Storing the words from the i-th on from here leaves what storing all leaves.
use mathlib.Core.Path.{◌≡◌}
use Prim.Native.Nat.{◌+◌, ◌-◌}
use lib.Seq.{sets}
use Rattle.path.specs.Strokes.{gather}
use Rattle.sheet.specs.Sheets.{word_at}
use Rattle.sheet_read.proofs.copy_words.Given as goal

abbrev pub invariant-loop-i : goal.invariant-loop-i
invariant-loop-i l = sets l.out l.i (gather (word_at l.bytes) (l.a + l.i) (l.n - l.i)) ≡ sets l.initial.out 0 (gather (word_at l.bytes) l.a l.n)
