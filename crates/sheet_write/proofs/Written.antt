-- What an accepted call writes is a sheet, from which mode, vertices and the strokes that have points are read back.
use Rattle.std.specs.Prelude.{Ok}
use mathlib.Core.Path.{◌≡◌, ap}
use mathlib.Core.Bool.{true}
use mathlib.Core.List.{List}
use Prim.Native.Nat.{ℕ, ◌≤◌}
use native.Mathlib.Omega.{arith}
use lib.ListN.{length}
use borrow.Author.Tests.{le-leb}
use Rattle.refusal.specs.Limits.{most_vertices, most_strokes, most_points}
use Rattle.path.specs.Strokes.{number_at, strokes_in}
use Rattle.path.specs.Laid.{non_empty, joined, starts_from}
use Rattle.path.proofs.Tests.{passed}
use Rattle.path.proofs.Pushes.{no_more_kept}
use Rattle.mesh.specs.Meshes.{all_below}
use Rattle.sheet.proofs.Modes.{word_good}
use Rattle.sheet.specs.Sheets.{mode_word, sheet_of, mode_good, counts_good, starts_in, numbers_in}
use Rattle.sheet.proofs.Sizes.{limits}
use Rattle.path.proofs.Again.{joined-all, strokes_count}
use Rattle.sheet.proofs.Back.{Readable, sheet_back, read_back}
use Rattle.sheet_write.specs.Call.{verdict_of}
use Rattle.sheet_write.proofs.Calls.{granted}

module _ (mode vertices : ℕ) (ns ss : List ℕ) (room : ℕ) (h : verdict_of mode vertices ns ss room ≡ (Ok tt)) where
  abbrev All : List (List ℕ)
  All = strokes_in ns ss

  few_vertices : vertices ≤ most_vertices
  unfolding verdict_of
  few_vertices =
      let shape = passed _ _ _ h in
      let count = passed _ _ _ shape.1 in
      (limits vertices (length ss) (length ns) count.0).2

  all_below_lem : all_below vertices (joined All) ≡ true
  unfolding verdict_of
  all_below_lem =
      let shape = passed _ _ _ h in
      let count = passed _ _ _ shape.1 in
      rw (joined-all ns ss shape.0) (passed _ _ _ count.1).0

  mode_good_lem : mode_good (mode_word mode) ≡ true
  unfolding verdict_of
  mode_good_lem =
      let shape = passed _ _ _ h in
      let count = passed _ _ _ shape.1 in
      let vertex = passed _ _ _ count.1 in
      word_good mode (passed _ _ _ vertex.1).0

  counts_good_lem : counts_good vertices (length (non_empty All)) (length (joined All)) ≡ true
  unfolding counts_good
  counts_good_lem =
      let g = granted mode vertices ns ss room h in
      let k = no_more_kept All in
      let s = strokes_count (number_at ns) (length ns) ss in
      let e = ap length (joined-all ns ss g.table) in
      let a = g.strokes in
      let b = g.points in
      rw (le-leb vertices most_vertices few_vertices, le-leb (length (non_empty All)) most_strokes (omega arith), le-leb (length (joined All)) most_points (omega arith))

  pub written_back : Readable (mode_word mode) vertices (starts_from 0 (non_empty All)) (joined All) (sheet_of (mode_word mode) vertices All)
  written_back = sheet_back (mode_word mode) vertices All mode_good_lem counts_good_lem all_below_lem

  pub written-strokes : strokes_in (numbers_in (sheet_of (mode_word mode) vertices All)) (starts_in (sheet_of (mode_word mode) vertices All)) ≡ non_empty All
  written-strokes = read_back (mode_word mode) vertices All mode_good_lem counts_good_lem all_below_lem
