-- Reading a written sheet, where there is room, gives mode and vertices back, and the strokes that have points.
use mathlib.Core.Path.{◌≡◌, sym, ap, ◌∙◌}
use mathlib.Core.List.{List, [], ◌∷◌}
use Prim.Native.Nat.{ℕ, ◌≤◌}
use lib.ListN.{length}
use borrow.Author.Tests.{le-leb}
use Rattle.refusal.specs.Refusals.{unless}
use Rattle.refusal.specs.Said.{accepted}
use Rattle.refusal.specs.Outcome.{outcome}
use Rattle.path.specs.Laid.{over}
use Rattle.path.proofs.Gathers.{length-gather}
use Rattle.sheet.specs.Sheets.{header_words, numbers_from, word_at, stroke_count, point_count, starts_in, numbers_in}
use Rattle.sheet.proofs.Back.{Readable}
use Rattle.sheet_read.specs.Call.{room_for, verdict_of, left, laid, read_left}

module _ (m v : ℕ) (ks ns bs on os : List ℕ) (R : Readable m v ks ns bs) (hn : length ns ≤ length on) (hs : length ks ≤ length os) where
  points : point_count bs ≡ length ns
  unfolding numbers_in
  points = sym (length-gather (word_at bs) (numbers_from (stroke_count bs)) (point_count bs)) ∙ ap length R.numbers

  strokes : stroke_count bs ≡ length ks
  unfolding starts_in
  strokes = sym (length-gather (word_at bs) header_words (stroke_count bs)) ∙ ap length R.starts

  pub read_written : read_left bs on os ≡ left (accepted (length ns ∷ length ks ∷ m ∷ v ∷ [])) (over on ns) (over os ks)
  unfolding read_left verdict_of room_for unless outcome laid
  read_written = rw (R.sheet, points, strokes, le-leb (length ns) (length on) hn, le-leb (length ks) (length os) hs) (rw (R.mode, R.vertices, R.numbers, R.starts))
