-- `write_starts` meets its contract. Storing the starts of the strokes with points from the i-th on from here leaves
-- what storing all leaves, and ends at the place after all.
use mathlib.Core.Path.{◌≡◌}
use lib.Seq.{sets}
use Prim.Native.Nat.{◌+◌, ◌*◌, ◌≤◌}
use lib.ListN.{length, drop}
use Rattle.byte_words.specs.Bytes.{bytes_all}
use Rattle.sheet.specs.Sheets.{header_words, numbers_from}
use Rattle.sheet.specs.InnerKept.{kept_from}
use Rattle.sheet_write.proofs.write_starts.Given as goal

abbrev pub invariant-loop-i : goal.invariant-loop-i
invariant-loop-i l = (l.k ≤ header_words + l.i) × (l.k + length (kept_from l.n (drop l.i l.starts)) ≡ numbers_from (length (kept_from l.n l.starts)))
    × (sets l.out (l.k * 4) (bytes_all (kept_from l.n (drop l.i l.starts))) ≡ sets l.initial.out (header_words * 4) (bytes_all (kept_from l.n l.starts)))
