-- `write_more` meets its contract. Writing the words from the i-th on from here leaves what writing all leaves, and so
-- far there are at most 11 bytes a word.
use mathlib.Core.Path.{◌≡◌}
use Prim.Native.Nat.{◌+◌, ◌-◌, ◌*◌, ◌≤◌}
use lib.Seq.{sets}
use Rattle.path.specs.Strokes.{gather}
use Rattle.path.specs.Courses.{course, advanced}
use Rattle.sheet.specs.Sheets.{word_at}
use Rattle.sheet_list.specs.Listing.{spaced}
use Rattle.sheet_list.proofs.write_more.Given as goal

abbrev pub invariant-loop-i : goal.invariant-loop-i
invariant-loop-i l = (l.a ≤ l.i) × (l.at ≤ l.k + 11 * (l.i - l.a)) × (advanced sets (course l.out l.at) (spaced (gather (word_at l.bytes) l.i (l.e - l.i))) ≡ advanced sets (course l.initial.out l.k) (spaced (gather (word_at l.bytes) l.a (l.e - l.a))))
