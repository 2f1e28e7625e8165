-- `write_strokes` meets its contract. Writing the lines of the strokes from the i-th on from here leaves what writing
-- all leaves, and so far there are at most 0x17_0000_0000 bytes a stroke.
use mathlib.Core.Path.{◌≡◌}
use Prim.Native.Nat.{◌+◌, ◌*◌, ◌≤◌}
use lib.ListN.{drop}
use lib.Seq.{sets}
use Rattle.path.specs.Strokes.{gather, strokes_of}
use Rattle.path.specs.Courses.{course, advanced}
use Rattle.sheet.specs.Sheets.{header_words, word_at}
use Rattle.sheet_list.specs.Listing.{lines_of}
use Rattle.sheet_list.specs.InnerLines.{number_in}
use Rattle.sheet_list.proofs.write_strokes.Given as goal

abbrev pub invariant-loop-i : goal.invariant-loop-i
invariant-loop-i l = (l.at ≤ l.k + l.i * 0x17_0000_0000) × (advanced sets (course l.out l.at) (lines_of (strokes_of (number_in l.bytes l.strokes) l.points (drop l.i (gather (word_at l.bytes) header_words l.strokes))))
    ≡ advanced sets (course l.initial.out l.k) (lines_of (strokes_of (number_in l.bytes l.strokes) l.points (gather (word_at l.bytes) header_words l.strokes))))
