-- `words_below` meets its contract. The words from the i-th on are below n where all are.
use mathlib.Core.Path.{◌≡◌}
use Prim.Native.Nat.{◌-◌}
use Rattle.path.specs.Strokes.{gather}
use Rattle.mesh.specs.Meshes.{all_below}
use Rattle.sheet.specs.Sheets.{word_at}
use Rattle.sheet_read.proofs.words_below.Given as goal

abbrev pub invariant-loop-i : goal.invariant-loop-i
invariant-loop-i l = all_below l.n (gather (word_at l.bytes) l.i (l.e - l.i)) ≡ all_below l.n (gather (word_at l.bytes) l.a (l.e - l.a))
