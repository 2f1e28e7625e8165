-- The turns of the loops over the starts.
use mathlib.Core.Path.{◌≡◌, sym, ap, ◌∙◌}
use mathlib.Core.Logic.{◌⊎◌, inl, inr}
use mathlib.Core.Bool.{Bool, true, false, ◌&&◌, cond}
use mathlib.Core.List.{List, [], ◌++◌, append-nil}
use Prim.Native.Nat.{ℕ, suc, ◌+◌, ◌-◌, ◌≤◌, ◌<◌}
use native.Mathlib.Omega.{arith}
use lib.Dec.{ltb, eqb}
use borrow.Author.Tests.{le-leb, lt-leb, lt-ltb, le-ltb, eq-eqb, ne_eqb}
use Rattle.path.specs.Strokes.{gather}
use Rattle.path.specs.declared.Place.{Place}
use Rattle.path.proofs.Tests.{split}
use Rattle.sheet.specs.Sheets.{header_words}
use Rattle.sheet_salvage.specs.InnerPieces.{kept_from, start_after, saved_from, end_of, saved_by, ignored_from, ignored_by, after, laid_at, LaysOver}
use Rattle.sheet_salvage.specs.InnerScan.{num}
use Rattle.sheet_salvage.proofs.Lays.{after-append}
use Rattle.sheet_salvage.proofs.Starts.{start_within, start_below, start_told}

pub count-more : (p r : Place) (all some rest : List (List ℕ)) → all ≡ some ++ rest → r ≡ after p some → after r rest ≡ after p all
count-more p r all some rest e q = ap (λ (x : Place). after x rest) q ∙ after-append p some rest ∙ ap (after p) (sym e)

module _ (m strokes : ℕ) (word : ℕ → ℕ) (i a e : ℕ) (q : e ≡ end_of m strokes word i a) where
  -- a stroke's end is not below its start, nor past all points
  pub end_within : a ≤ m → (a ≤ e) × (e ≤ m)
  end_within h = go (ltb i strokes) q
    where
      go : (b : Bool) → e ≡ cond b (start_after m a (word (header_words + i))) m → (a ≤ e) × (e ≤ m)
      go true z = let w = start_within m a (word (header_words + i)) h in (omega (arith, w.0), omega (arith, w.1))
      go false z = (omega arith, omega arith)

  -- that of the last stroke is the end of all, others are below it
  pub end_next : a ≤ m - 1 → i + 1 ≤ strokes → e ≤ m - 1
  end_next h l = let z : e ≡ start_after m a (word (header_words + i)) = q ∙ rw (lt-ltb i strokes (omega arith)) in omega (arith, start_below m a (word (header_words + i)) h)

  pub end_last : strokes < i + 1 → e ≡ m
  end_last l = q ∙ rw (le-ltb i strokes (omega arith))

  module _ (n : ℕ) (at : ℕ → ℕ) (h : i ≤ strokes) where
    pub saved-turn : saved_by n at m strokes word i a ≡ kept_from n at a e ++ saved_by n at m strokes word (i + 1) e
    unfolding gather saved_from
    saved-turn = go (split strokes i)
      where
        go : (strokes ≤ i) ⊎ (i < strokes) → saved_by n at m strokes word i a ≡ kept_from n at a e ++ saved_by n at m strokes word (i + 1) e
        go (inl l) =
            let z : strokes - i ≡ 0 = omega arith in
            rw (le-leb i strokes h, z, lt-leb (i + 1) strokes (omega arith), end_last (omega arith)) (sym (append-nil (kept_from n at a m)))
        go (inr l) =
            let z : strokes - i ≡ suc (strokes - (i + 1)) = omega arith in
            let y : header_words + i + 1 ≡ header_words + (i + 1) = omega arith in
            let w : e ≡ start_after m a (word (header_words + i)) = q ∙ rw (lt-ltb i strokes l) in
            rw (le-leb i strokes h, z, y, le-leb (i + 1) strokes (omega arith), w)

  pub ignored_turn : i ≤ strokes → a ≤ m - 1 → (x y r : ℕ) → r ≡ num (eqb a e) → x + ignored_by m strokes word i a ≡ y → x + r + ignored_by m strokes word (i + 1) e ≡ y
  unfolding gather ignored_from
  ignored_turn h d x y r er g = go (split strokes i)
    where
      go : (strokes ≤ i) ⊎ (i < strokes) → x + r + ignored_by m strokes word (i + 1) e ≡ y
      go (inl l) =
          let z : strokes - i ≡ 0 = omega arith in
          let f : x + (0 + num (eqb m 0)) ≡ y = rw (le-leb i strokes h, z) at g in
          let w : num (eqb a e) ≡ num (eqb m 0) = rw (end_last (omega arith)) (same (split m 0)) in
          rw (lt-leb (i + 1) strokes (omega arith)) (omega (arith, f, w))
        where
          same : (m ≤ 0) ⊎ (0 < m) → num (eqb a m) ≡ num (eqb m 0)
          same (inl k) = rw (eq-eqb a m (omega arith), eq-eqb m 0 (omega arith))
          same (inr k) = rw (ne_eqb a m (λ u. omega arith), ne_eqb m 0 (λ u. omega arith))
      go (inr l) =
          let z : strokes - i ≡ suc (strokes - (i + 1)) = omega arith in
          let v : header_words + i + 1 ≡ header_words + (i + 1) = omega arith in
          let s = word (header_words + i) in
          let w : e ≡ start_after m a s = q ∙ rw (lt-ltb i strokes l) in
          let f : x + (cond (ltb a s && ltb s m) 0 1 + ignored_from m (start_after m a s) (gather word (header_words + (i + 1)) (strokes - (i + 1))) + num (eqb m 0)) ≡ y = rw (le-leb i strokes h, z, v) at g in
          let u : r ≡ cond (ltb a s && ltb s m) 0 1 = er ∙ rw w (start_told m a s) in
          rw (le-leb (i + 1) strokes (omega arith), w, u) (omega (arith, f))

pub saved_end : (n : ℕ) (at : ℕ → ℕ) (m strokes : ℕ) (word : ℕ → ℕ) (i a : ℕ) → strokes < i → saved_by n at m strokes word i a ≡ []
saved_end n at m strokes word i a h = rw (lt-leb i strokes h)

pub ignored_end : (m strokes : ℕ) (word : ℕ → ℕ) (i a x y : ℕ) → strokes < i → x + ignored_by m strokes word i a ≡ y → x ≡ y
ignored_end m strokes word i a x y h g = let f : x + 0 ≡ y = rw (lt-leb i strokes h) at g in omega (arith, f)

pub lay_more : (out out' : List ℕ) (total p r : Place) (all some rest : List (List ℕ)) → all ≡ some ++ rest → r ≡ after p some → after p all ≡ total → LaysOver out out' total p some
    → laid_at out' (header_words + total.starts) r rest ≡ laid_at out (header_words + total.starts) p all
lay_more out out' total p r all some rest e q t w =
    let base = header_words + total.starts in
    ap (λ (x : Place). laid_at out' base x rest) q ∙ w rest (ap (after p) (sym e) ∙ t) ∙ ap (laid_at out base p) (sym e)
