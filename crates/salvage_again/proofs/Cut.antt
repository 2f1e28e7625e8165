-- A sheet cut off behind its starts: what is taken of it, and what is kept.
use mathlib.Core.Path.{◌≡◌, refl, sym, ap, ◌∙◌}
use mathlib.Core.Bool.{Bool, true, false, ◌&&◌, cond}
use mathlib.Core.List.{List, [], ◌∷◌}
use Prim.Native.Nat.{ℕ, zero, suc, zero-le, ◌+◌, ◌-◌, ◌*◌, ◌/◌, ◌≤◌, ◌<◌}
use native.Mathlib.Omega.{arith}
use lib.ListN.{length, take}
use lib.Seq.{length-take-le, get_or-take}
use lib.Dec.{ltb, eqb}
use borrow.Author.Tests.{le-leb, le-ltb, lt-ltb, ltb-true, eqb-true, ne_eqb}
use Rattle.refusal.specs.Limits.{most_points}
use Rattle.byte_words.specs.Bytes.{word_from}
use Rattle.path.specs.Strokes.{good_from, gather, strokes_of, number_at}
use Rattle.path.specs.Laid.{joined}
use Rattle.path.proofs.Gathers.{gather-at, length-gather}
use Rattle.path.proofs.Starts.{table_next}
use Rattle.path.proofs.Tests.{both}
use Rattle.mesh.specs.Meshes.{all_below}
use Rattle.mesh.proofs.Tests.{index_below}
use Rattle.sheet.specs.Sheets.{header_words, numbers_from, word_at, vertices_in, stroke_count, point_count, starts_in, numbers_in, strict_from, table_good, is_sheet}
use Rattle.sheet.proofs.Back.{gather-same, Tested, tested}
use Rattle.sheet.proofs.Sizes.{limits}
use Rattle.sheet_salvage.specs.Salvage.{taken_count, point_in, rising_from, starts_taken, strokes_taken, saved_in, wild_in, leftovers_in}
use Rattle.sheet_salvage.specs.InnerPieces.{stroked_count}
use Rattle.sheet_salvage.proofs.Held.{lesser-second}
use Rattle.sheet_salvage.proofs.Starts.{joined-taken, rising_good}
use Rattle.sheet_salvage.proofs.Counts.{wild_none, taken_count_lem}
use Rattle.salvage_again.specs.Promises.{starts_below, points_held}
use Rattle.salvage_again.proofs.Below.{below-gather, kept_whole}

-- ---- words that the first k bytes hold whole

pub word_take : (bs : List ℕ) (k j : ℕ) → j * 4 + 4 ≤ k → word_at (take k bs) j ≡ word_at bs j
unfolding word_at word_from
word_take bs k j h = rw (get_or-take k bs (j * 4) 0 (omega arith), get_or-take k bs (j * 4 + 1) 0 (omega arith), get_or-take k bs (j * 4 + 2) 0 (omega arith), get_or-take k bs (j * 4 + 3) 0 (omega arith))

-- ---- the starts of a sheet: those taken of its first m points are those below m

strict_lower : (p a s : ℕ) (ss : List ℕ) → a ≤ s → strict_from p s ss ≡ true → strict_from p a ss ≡ true
unfolding strict_from
strict_lower p a s [] h g = refl
strict_lower p a s (t ∷ ss) h g =
    let b = both (ltb s t && ltb t p) (strict_from p t ss) g in
    let d = both (ltb s t) (ltb t p) b.0 in
    let l = ltb-true s t d.0 in
    rw (lt-ltb a t (omega arith), d.1, b.1)

pub rising_below : (p m a : ℕ) (ss : List ℕ) → strict_from p a ss ≡ true → rising_from m a ss ≡ starts_below m ss
unfolding strict_from rising_from starts_below
rising_below p m a [] g = refl
rising_below p m a (s ∷ ss) g =
    let b = both (ltb a s && ltb s p) (strict_from p s ss) g in
    let d = both (ltb a s) (ltb s p) b.0 in
    let l = ltb-true a s d.0 in
    rw d.0 (go (ltb s m) (rising_below p m s ss b.1) (rising_below p m a ss (strict_lower p a s ss (omega arith) b.1)))
  where
    go : (x : Bool) → rising_from m s ss ≡ starts_below m ss → rising_from m a ss ≡ starts_below m ss → cond x (s ∷ rising_from m s ss) (rising_from m a ss) ≡ cond x (s ∷ starts_below m ss) (starts_below m ss)
    go true i j = ap (λ (l : List ℕ). s ∷ l) i
    go false i j = j

pub none_below : (ss : List ℕ) → starts_below 0 ss ≡ []
unfolding starts_below
none_below [] = refl
none_below (s ∷ ss) = rw (le-ltb s 0 zero-le) (none_below ss)

taken_below : (p m : ℕ) (ss : List ℕ) → table_good p ss ≡ true → starts_taken m ss ≡ starts_below m ss
unfolding starts_taken table_good starts_below
taken_below p zero ss g = sym (none_below ss)
taken_below p (suc m) [] g = refl
taken_below p (suc m) (s ∷ ss) g =
    let b = both (eqb s 0 && ltb s p) (strict_from p s ss) g in
    let z = eqb-true s 0 (both (eqb s 0) (ltb s p) b.0).0 in
    rw (z, lt-ltb 0 (suc m) (omega arith), rising_below p (suc m) 0 ss (rw z at b.1))

-- ---- strokes by words that are the same

strokes_from : (f g : ℕ → ℕ) (n s : ℕ) (ss : List ℕ) → s ≤ n → good_from n s ss ≡ true → ((i : ℕ) → i < n → f i ≡ g i) → strokes_of f n (s ∷ ss) ≡ strokes_of g n (s ∷ ss)
unfolding strokes_of
strokes_from f g n s [] h q same = rw (gather-same f g s (n - s) (λ j l. same j (omega arith)))
strokes_from f g n s (t ∷ ss) h q same =
    let k = table_next n s t ss q in
    rw (gather-same f g s (t - s) (λ j l. same j (omega (arith, k.0, k.1)))) (ap (λ (x : List (List ℕ)). gather g s (t - s) ∷ x) (strokes_from f g n t ss k.1 k.2 same))

strokes_same : (f g : ℕ → ℕ) (n : ℕ) (ss : List ℕ) → ((i : ℕ) → i < n → f i ≡ g i) → strokes_of f n (starts_taken n ss) ≡ strokes_of g n (starts_taken n ss)
unfolding starts_taken strokes_of
strokes_same f g zero ss same = refl
strokes_same f g (suc n) [] same = refl
strokes_same f g (suc n) (s ∷ ss) same = strokes_from f g (suc n) 0 (rising_from (suc n) 0 ss) zero-le (rising_good (suc n) 0 ss) same

-- ---- a sheet cut off at k bytes

module _ (bs : List ℕ) (k : ℕ) (h : is_sheet bs ≡ true) (lo : 4 * numbers_from (stroke_count bs) ≤ k) (hi : k ≤ length bs) where
  abbrev Cut : List ℕ
  Cut = take k bs

  abbrev Held : ℕ
  Held = points_held bs k

  t : Tested bs
  t = tested bs h

  -- the header and the starts are there whole
  pub strokes_are : stroke_count Cut ≡ stroke_count bs
  strokes_are = word_take bs k 2 (omega arith)

  pub vertices_are : vertices_in Cut ≡ vertices_in bs
  vertices_are = word_take bs k 1 (omega arith)

  points_are : point_count Cut ≡ point_count bs
  points_are = word_take bs k 3 (omega arith)

  pub starts_are : starts_in Cut ≡ starts_in bs
  unfolding starts_in
  starts_are = rw strokes_are (gather-same (word_at Cut) (word_at bs) header_words (stroke_count bs) (λ j l. word_take bs k j (omega arith)))

  -- the points that it holds, and no others, are taken
  held_few : (Held ≤ point_count bs) × (point_count bs ≤ most_points)
  held_few =
      let f = limits (vertices_in bs) (stroke_count bs) (point_count bs) t.counts in
      (omega (arith, t.size), f.1)

  pub taken_are : taken_count Cut ≡ Held
  unfolding taken_count
  taken_are =
      let f = held_few in
      let l : length Cut ≡ k = length-take-le k bs hi in
      let e : length Cut / 4 - numbers_from (stroke_count Cut) ≡ Held = omega (arith, l, strokes_are) in
      rw (points_are, e, le-leb Held most_points (omega arith)) (lesser-second (point_count bs) Held f.0)

  point_is : (i : ℕ) → i < Held → point_in Cut i ≡ number_at (numbers_in bs) i
  unfolding numbers_in
  point_is i l =
      let f = held_few in
      ap (λ (s : ℕ). word_at Cut (numbers_from s + i)) strokes_are ∙ word_take bs k (numbers_from (stroke_count bs) + i) (omega arith) ∙ gather-at (word_at bs) (numbers_from (stroke_count bs)) (point_count bs) i 0 (omega arith)

  strokes_taken_lem : strokes_taken Cut ≡ strokes_of (number_at (numbers_in bs)) Held (starts_below Held (starts_in bs))
  unfolding strokes_taken
  strokes_taken_lem = rw (taken_are, starts_are) (strokes_same (point_in Cut) (number_at (numbers_in bs)) Held (starts_in bs) point_is ∙ ap (strokes_of (number_at (numbers_in bs)) Held) (taken_below (point_count bs) Held (starts_in bs) t.table))

  stroked_few : stroked_count Cut ≤ Held
  stroked_few = go (eqb (stroke_count Cut) 0)
    where
      go : (b : Bool) → cond b 0 (taken_count Cut) ≤ Held
      go true = zero-le
      go false = omega (arith, taken_are)

  -- their numbers are below the vertex count, so all are kept
  all_below_lem : all_below (vertices_in Cut) (joined (strokes_taken Cut)) ≡ true
  unfolding numbers_in
  all_below_lem =
      let f = held_few in
      let n = length-gather (word_at bs) (numbers_from (stroke_count bs)) (point_count bs) in
      let s = stroked_few in
      rw (joined-taken Cut, vertices_are) (below-gather (vertices_in bs) (point_in Cut) 0 (stroked_count Cut) (λ j l. omega (arith, point_is j (omega arith), index_below (vertices_in bs) (numbers_in bs) j t.below (omega arith))))

  pub saved_are : saved_in Cut ≡ strokes_of (number_at (numbers_in bs)) Held (starts_below Held (starts_in bs))
  unfolding saved_in
  saved_are = kept_whole (vertices_in Cut) (strokes_taken Cut) all_below_lem ∙ strokes_taken_lem

  pub none-wild : wild_in Cut ≡ 0
  unfolding wild_in
  none-wild = wild_none (vertices_in Cut) (joined (strokes_taken Cut)) all_below_lem

  -- points without strokes are not a sheet's
  all_stroked : stroked_count Cut ≡ taken_count Cut
  unfolding starts_in table_good gather
  all_stroked = go (stroke_count bs) refl
    where
      go : (s : ℕ) → stroke_count bs ≡ s → stroked_count Cut ≡ taken_count Cut
      go zero e =
          let f = held_few in
          let g : table_good (point_count bs) (gather (word_at bs) header_words 0) ≡ true = rw e at t.table in
          let z = eqb-true (point_count bs) 0 g in
          rw (strokes_are, e) (omega (arith, taken_are))
      go (suc s) e = rw (strokes_are, e, ne_eqb (suc s) 0 (λ q. omega arith))

  pub no_leftovers : leftovers_in Cut ≡ 0
  unfolding saved_in
  no_leftovers =
      let a = taken_count_lem Cut in
      let b = ap (λ (x : List (List ℕ)). length (joined x)) (kept_whole (vertices_in Cut) (strokes_taken Cut) all_below_lem) in
      let d = ap length (joined-taken Cut) in
      let e = length-gather (point_in Cut) 0 (stroked_count Cut) in
      omega (arith, a, b, d, e, all_stroked, none-wild)
