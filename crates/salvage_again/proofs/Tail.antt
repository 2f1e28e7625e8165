-- What the call leaves of a sheet cut off behind its starts.
use mathlib.Core.Path.{◌≡◌, ap, ◌∙◌}
use mathlib.Core.Logic.{◌⊎◌, inl, inr}
use mathlib.Core.Bool.{Bool, true, false, ◌&&◌, cond}
use mathlib.Core.List.{List, [], ◌∷◌}
use Prim.Native.Nat.{ℕ, zero, suc, ◌-◌, ◌*◌, ◌≤◌, ◌<◌}
use native.Mathlib.Omega.{arith}
use lib.ListN.{length, take}
use lib.Seq.{length-take-le}
use lib.Dec.{ltb, eqb}
use borrow.Author.Tests.{le-leb, lt-ltb, eqb-true, eq-eqb, ne_eqb}
use Rattle.refusal.specs.Limits.{most_vertices, most_strokes}
use Rattle.refusal.specs.Refusals.{unless}
use Rattle.refusal.specs.Outcome.{outcome}
use Rattle.path.specs.Strokes.{number_at}
use Rattle.path.specs.Laid.{joined}
use Rattle.path.proofs.Again.{strokes_count}
use Rattle.path.proofs.Gathers.{length-gather}
use Rattle.path.proofs.Tests.{both, split}
use Rattle.sheet.specs.Sheets.{starts_offset, header_words, numbers_from, word_at, mode_in, vertices_in, stroke_count, point_count, starts_in, numbers_in, size_of, counts_good, strict_from, table_good, is_sheet}
use Rattle.sheet.proofs.Back.{Tested, tested}
use Rattle.sheet.proofs.Sizes.{limits}
use Rattle.sheet_salvage.specs.Salvage.{header_usable, saved_in, changed, offsets_by, offsets_changed, ignored_of, starts_ignored}
use Rattle.sheet_salvage.specs.Call.{kept_verdict, verdict_of, salvaged, reported, laid, salvage_left}
use Rattle.sheet_salvage.proofs.Calls.{salvaged-length}
use Rattle.salvage_again.specs.Promises.{starts_below, points_held, front_of, strokes_lost, LosesTail}
use Rattle.salvage_again.proofs.Cut.{word_take, none_below, rising_below, strokes_are, vertices_are, starts_are, taken_are, saved_are, none-wild, no_leftovers}
use Rattle.salvage_again.proofs.Sizes.{salvaged-size}

below-few : (m : ℕ) (ss : List ℕ) → length (starts_below m ss) ≤ length ss
unfolding starts_below
below-few m [] = omega arith
below-few m (s ∷ ss) = go (ltb s m) (below-few m ss)
  where
    go : (b : Bool) → length (starts_below m ss) ≤ length ss → length (cond b (s ∷ starts_below m ss) (starts_below m ss)) ≤ suc (length ss)
    go true ih = omega arith
    go false ih = omega arith

-- the starts of a sheet that are ignored are those not below m
ignored_below : (p m : ℕ) (ss : List ℕ) → table_good p ss ≡ true → ignored_of m ss ≡ length ss - length (starts_below m ss)
unfolding ignored_of table_good starts_below
ignored_below p zero ss g = omega (arith, ap length (none_below ss))
ignored_below p (suc m) [] g = omega arith
ignored_below p (suc m) (s ∷ ss) g =
    let b = both (eqb s 0 && ltb s p) (strict_from p s ss) g in
    let z = eqb-true s 0 (both (eqb s 0) (ltb s p) b.0).0 in
    let r = ap length (rising_below p (suc m) 0 ss (rw z at b.1)) in
    rw (z, lt-ltb 0 (suc m) (omega arith)) (omega (arith, r))

-- the offset of the numbers is another where strokes are lost
offset_moves : (s l : ℕ) → l ≤ s → changed (4 * numbers_from s) (4 * numbers_from l) ≡ changed (s - l) 0
offset_moves s l h = go (split s l)
  where
    go : (s ≤ l) ⊎ (l < s) → changed (4 * numbers_from s) (4 * numbers_from l) ≡ changed (s - l) 0
    go (inl k) = rw (eq-eqb (4 * numbers_from s) (4 * numbers_from l) (omega arith), eq-eqb (s - l) 0 (omega arith))
    go (inr k) = rw (ne_eqb (4 * numbers_from s) (4 * numbers_from l) (λ q. omega arith), ne_eqb (s - l) 0 (λ q. omega arith))

module _ (bs : List ℕ) (k : ℕ) (h : is_sheet bs ≡ true) (lo : 4 * numbers_from (stroke_count bs) ≤ k) (hi : k ≤ length bs) where
  abbrev Cut : List ℕ
  Cut = take k bs

  t : Tested bs
  t = tested bs h

  size : length Cut ≡ k
  size = length-take-le k bs hi

  mode_is : mode_in Cut ≡ mode_in bs
  mode_is = word_take bs k 0 (omega arith)

  strokes_left_lem : length (saved_in Cut) ≡ length (starts_below (points_held bs k) (starts_in bs))
  strokes_left_lem = ap length (saved_are bs k h lo hi) ∙ strokes_count (number_at (numbers_in bs)) (points_held bs k) (starts_below (points_held bs k) (starts_in bs))

  few_left : length (saved_in Cut) ≤ stroke_count bs
  unfolding starts_in
  few_left = omega (arith, strokes_left_lem, below-few (points_held bs k) (starts_in bs), length-gather (word_at bs) header_words (stroke_count bs))

  front : salvaged Cut ≡ front_of bs k
  unfolding salvaged front_of
  front = rw (mode_is, vertices_are bs k h lo hi, saved_are bs k h lo hi)

  lost : starts_ignored Cut ≡ strokes_lost bs k
  unfolding starts_ignored starts_in
  lost = rw (taken_are bs k h lo hi, starts_are bs k h lo hi) (ignored_below (point_count bs) (points_held bs k) (starts_in bs) t.table ∙ ap (λ (x : ℕ). x - length (starts_below (points_held bs k) (starts_in bs))) (length-gather (word_at bs) header_words (stroke_count bs)))

  moved : offsets_changed Cut ≡ cond (eqb (strokes_lost bs k) 0) 0 1
  unfolding offsets_changed offsets_by
  moved =
      let a = word_take bs k 4 (omega arith) ∙ t.starts_at in
      let b = word_take bs k 5 (omega arith) ∙ t.numbers_at in
      rw (eq-eqb (word_at Cut starts_offset) (4 * header_words) a, b) (omega (arith, offset_moves (stroke_count bs) (length (saved_in Cut)) few_left, ap (λ (x : ℕ). changed (stroke_count bs - x) 0) strokes_left_lem))

  usable : header_usable Cut ≡ true
  unfolding header_usable counts_good
  usable =
      let few = limits (vertices_in bs) (stroke_count bs) (point_count bs) t.counts in
      rw (mode_is, vertices_are bs k h lo hi, strokes_are bs k h lo hi, t.mode, le-leb (vertices_in bs) most_vertices few.2, le-leb (stroke_count bs) most_strokes few.0, le-leb (4 * numbers_from (stroke_count bs)) (length Cut) (omega (arith, size)))

pub loses_tail : (bs : List ℕ) (k : ℕ) → LosesTail bs k
unfolding salvage_left outcome verdict_of kept_verdict unless laid reported
loses_tail bs k h lo hi out room =
    let few = limits (vertices_in bs) (stroke_count bs) (point_count bs) (tested bs h).counts in
    let s = saved_in (take k bs) in
    let l = few_left bs k h lo hi in
    let n = size bs k h lo hi in
    let fits : size_of (length s) (length (joined s)) ≤ length out = omega (arith, salvaged-length (take k bs), salvaged-size (take k bs) (omega (arith, n, strokes_are bs k h lo hi)), n, room) in
    rw (usable bs k h lo hi, le-leb (length s) most_strokes (omega arith), le-leb (size_of (length s) (length (joined s))) (length out) fits, moved bs k h lo hi, lost bs k h lo hi, none-wild bs k h lo hi, no_leftovers bs k h lo hi, front bs k h lo hi)
