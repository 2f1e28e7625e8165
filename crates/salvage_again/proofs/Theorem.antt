-- What salvage promises, of all bytes.
use Rattle.std.specs.Prelude.{Ok}
use mathlib.Core.Path.{◌≡◌, refl, sym, ap, ◌∙◌}
use mathlib.Core.Bool.{true, ◌&&◌}
use mathlib.Core.List.{List, [], ◌∷◌}
use Prim.Native.Nat.{ℕ, zero, suc, ◌+◌, ◌*◌, ◌≤◌}
use native.Mathlib.Omega.{arith}
use lib.ListN.{length, take}
use lib.Seq.{take-length}
use lib.Dec.{leb, ltb, eqb}
use borrow.Author.Tests.{le-leb, leb-true, eq-eqb, eqb-true, ltb-true}
use Rattle.refusal.specs.Limits.{most_vertices, most_strokes, most_points}
use Rattle.refusal.specs.Refusals.{unless}
use Rattle.refusal.specs.Outcome.{outcome}
use Rattle.path.specs.Strokes.{strokes_of, number_at, strokes_in}
use Rattle.path.specs.Laid.{non_empty, joined}
use Rattle.path.proofs.Again.{joined-all, strokes_count}
use Rattle.path.proofs.Gathers.{length-gather}
use Rattle.path.proofs.Pushes.{no_more_kept}
use Rattle.path.proofs.Tests.{passed, both}
use Rattle.mesh.specs.Meshes.{all_below}
use Rattle.sheet.specs.Sheets.{starts_offset, numbers_offset, header_words, numbers_from, word_at, mode_in, vertices_in, stroke_count, point_count, starts_in, numbers_in, sheet_of, size_of, mode_good, counts_good, strict_from, table_good, is_sheet}
use Rattle.sheet.proofs.Back.{table_below, Tested, tested, write_back, sheet_back}
use Rattle.sheet.proofs.Sizes.{limits}
use Rattle.sheet.proofs.Tables.{table_good_lem}
use Rattle.sheet_salvage.specs.Salvage.{header_usable, taken_count, rising_from, saved_in, offsets_by, offsets_changed, ignored_of, starts_ignored}
use Rattle.sheet_salvage.specs.Call.{kept_verdict, verdict_of, salvaged, reported, laid, salvage_left}
use Rattle.sheet_salvage.proofs.Held.{taken_few}
use Rattle.sheet_salvage.proofs.Counts.{taken_count_lem}
use Rattle.salvage_again.specs.Promises.{Bytes, Unchanged, WritesSheets, KeepsSheets, CountsAll, InventsNothing, starts_below, points_held, FitsItsOwn}
use Rattle.salvage_again.proofs.Below.{kept-below, bytes_below}
use Rattle.salvage_again.proofs.Cut.{taken_are, saved_are, none-wild, no_leftovers, rising_below}
use Rattle.salvage_again.proofs.Runs.{saved_runs}
use Rattle.salvage_again.proofs.Sizes.{salvaged-size}

pub counts_all : (bs : List ℕ) → CountsAll bs
counts_all = taken_count_lem

pub invents_nothing : (bs : List ℕ) → InventsNothing bs
invents_nothing = saved_runs

pub fits-its_own : (bs : List ℕ) → FitsItsOwn bs
fits-its_own = salvaged-size

-- ---- a sheet is written as it is

below_all : (m : ℕ) (ss : List ℕ) → all_below m ss ≡ true → starts_below m ss ≡ ss
unfolding all_below starts_below
below_all m [] h = refl
below_all m (s ∷ ss) h = let t = both (ltb s m) (all_below m ss) h in rw (t.0, below_all m ss t.1)

none-ignored : (p : ℕ) (ss : List ℕ) → table_good p ss ≡ true → ignored_of p ss ≡ 0
unfolding table_good ignored_of all_below
none-ignored zero [] g = refl
none-ignored (suc p) [] g = refl
none-ignored zero (s ∷ ss) g =
    let b = both (eqb s 0 && ltb s 0) (strict_from 0 s ss) g in
    let l = ltb-true s 0 (both (eqb s 0) (ltb s 0) b.0).1 in
    absurd (omega arith)
none-ignored (suc p) (s ∷ ss) g =
    let b = both (eqb s 0 && ltb s (suc p)) (strict_from (suc p) s ss) g in
    let z = eqb-true s 0 (both (eqb s 0) (ltb s (suc p)) b.0).0 in
    let d = both (ltb s (suc p)) (all_below (suc p) ss) (table_below (suc p) (s ∷ ss) g) in
    let r : rising_from (suc p) 0 ss ≡ ss = rising_below (suc p) (suc p) 0 ss (rw z at b.1) ∙ below_all (suc p) ss d.1 in
    rw (eq-eqb s 0 z, r) (omega arith)

module _ (bs : List ℕ) (b : Bytes bs) (h : is_sheet bs ≡ true) where
  t : Tested bs
  t = tested bs h

  abbrev P : ℕ
  P = point_count bs

  size : length bs ≡ 4 * (numbers_from (stroke_count bs) + P)
  size = t.size

  lo : 4 * numbers_from (stroke_count bs) ≤ length bs
  lo = omega (arith, size)

  hi : length bs ≤ length bs
  hi = omega arith

  whole : take (length bs) bs ≡ bs
  whole = take-length bs

  held : points_held bs (length bs) ≡ P
  held = omega (arith, size)

  numbers : length (numbers_in bs) ≡ P
  unfolding numbers_in
  numbers = length-gather (word_at bs) (numbers_from (stroke_count bs)) P

  saved : saved_in bs ≡ strokes_in (numbers_in bs) (starts_in bs)
  saved =
      ap saved_in (sym whole) ∙ saved_are bs (length bs) h lo hi
      ∙ ap (λ (m : ℕ). strokes_of (number_at (numbers_in bs)) m (starts_below m (starts_in bs))) held
      ∙ ap (strokes_of (number_at (numbers_in bs)) P) (below_all P (starts_in bs) (table_below P (starts_in bs) t.table))
      ∙ ap (λ (m : ℕ). strokes_of (number_at (numbers_in bs)) m (starts_in bs)) (sym numbers)

  same : salvaged bs ≡ bs
  unfolding salvaged
  same = ap (sheet_of (mode_in bs) (vertices_in bs)) saved ∙ write_back bs b h

  taken : taken_count bs ≡ P
  taken = ap taken_count (sym whole) ∙ taken_are bs (length bs) h lo hi ∙ held

  ignored : starts_ignored bs ≡ 0
  unfolding starts_ignored
  ignored = rw taken (none-ignored P (starts_in bs) t.table)

  strokes : length (saved_in bs) ≡ stroke_count bs
  unfolding starts_in
  strokes = ap length saved ∙ strokes_count (number_at (numbers_in bs)) (length (numbers_in bs)) (starts_in bs) ∙ length-gather (word_at bs) header_words (stroke_count bs)

  points : length (joined (saved_in bs)) ≡ P
  points = ap (λ (x : List (List ℕ)). length (joined x)) saved ∙ ap length (joined-all (numbers_in bs) (starts_in bs) (table_good_lem (length (numbers_in bs)) (starts_in bs) (rw numbers t.table)).0) ∙ numbers

  offsets : offsets_changed bs ≡ 0
  unfolding offsets_changed offsets_by
  offsets = rw (strokes, eq-eqb (word_at bs starts_offset) (4 * header_words) t.starts_at, eq-eqb (word_at bs numbers_offset) (4 * numbers_from (stroke_count bs)) t.numbers_at)

  usable : header_usable bs ≡ true
  unfolding header_usable counts_good
  usable =
      let few = limits (vertices_in bs) (stroke_count bs) P t.counts in
      rw (t.mode, le-leb (vertices_in bs) most_vertices few.2, le-leb (stroke_count bs) most_strokes few.0, le-leb (4 * numbers_from (stroke_count bs)) (length bs) lo)

  pub unchanged : Unchanged bs
  unfolding salvage_left outcome verdict_of kept_verdict unless laid reported
  unchanged out l =
      let few = limits (vertices_in bs) (stroke_count bs) P t.counts in
      rw (usable, strokes, points, le-leb (stroke_count bs) most_strokes few.0, le-leb (size_of (stroke_count bs) P) (length out) (omega (arith, size)), offsets, ignored, rw whole at (none-wild bs (length bs) h lo hi), rw whole at (no_leftovers bs (length bs) h lo hi), same)

pub keeps-sheets : (bs : List ℕ) → KeepsSheets bs
keeps-sheets bs b h = unchanged bs b h

-- ---- what is written is a sheet

module _ (bs : List ℕ) (room : ℕ) (h : verdict_of bs room ≡ (Ok tt)) where
  written : is_sheet (salvaged bs) ≡ true
  unfolding verdict_of kept_verdict header_usable counts_good salvaged saved_in
  written =
      let a = passed _ _ _ h in
      let d = both (mode_good (mode_in bs) && counts_good (vertices_in bs) (stroke_count bs) 0) (leb (4 * numbers_from (stroke_count bs)) (length bs)) a.0 in
      let e = both (mode_good (mode_in bs)) (counts_good (vertices_in bs) (stroke_count bs) 0) d.0 in
      let few = limits (vertices_in bs) (stroke_count bs) 0 e.1 in
      let strokes = leb-true (length (saved_in bs)) most_strokes (passed _ _ _ a.1).0 in
      let n = no_more_kept (saved_in bs) in
      let c : counts_good (vertices_in bs) (length (non_empty (saved_in bs))) (length (joined (saved_in bs))) ≡ true =
      rw (le-leb (vertices_in bs) most_vertices few.2, le-leb (length (non_empty (saved_in bs))) most_strokes (omega arith), le-leb (length (joined (saved_in bs))) most_points (omega (arith, taken_count_lem bs, (taken_few bs).1))) in
      (sheet_back (mode_in bs) (vertices_in bs) (saved_in bs) e.0 c (kept-below (vertices_in bs) _)).sheet

  bytes : Bytes (salvaged bs)
  unfolding salvaged sheet_of
  bytes = bytes_below _

pub writes_sheets : (bs : List ℕ) (room : ℕ) → WritesSheets bs room
writes_sheets bs room h = (written bs room h, unchanged (salvaged bs) (bytes bs room h) (written bs room h))
