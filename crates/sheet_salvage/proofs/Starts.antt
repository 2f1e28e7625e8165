-- The starts that are taken, one after the other, and what is kept by them.
use mathlib.Core.Path.{◌≡◌, refl, sym, ap, ◌∙◌}
use mathlib.Core.Bool.{Bool, true, false, ◌&&◌, cond}
use mathlib.Core.List.{List, [], ◌∷◌, ◌++◌, append-nil}
use Prim.Native.Nat.{ℕ, zero, suc, zero-le, ◌+◌, ◌-◌, ◌≤◌, ◌<◌}
use native.Mathlib.Omega.{arith}
use lib.ListN.{length}
use lib.Dec.{leb, ltb, eqb}
use borrow.Author.Tests.{ltb-true, le-ltb, le-leb, lt-leb, eq-eqb, ne_eqb}
use Rattle.path.specs.Strokes.{good_from, gather, strokes_of}
use Rattle.path.specs.Laid.{non_empty, joined}
use Rattle.path.proofs.Tests.{both}
use Rattle.path.proofs.Again.{joined-from}
use Rattle.sheet.specs.Sheets.{header_words, word_at, vertices_in, stroke_count, starts_in}
use Rattle.sheet_salvage.specs.Salvage.{taken_count, point_in, rising_from, starts_taken, strokes_taken, pieces_of, long_ones, kept_of, kept_all, saved_in, changed, ignored_of}
use Rattle.sheet_salvage.specs.InnerPieces.{least_kept, kept_pieces, kept_from, start_after, saved_from, saved_by, ignored_from, ignored_by, stroked_count}
use Rattle.sheet_salvage.specs.InnerScan.{num}
use Rattle.sheet_salvage.proofs.Pieces.{kept-is, kept-none, some_least}

and_false : (b : Bool) → b && false ≡ false
and_false true = refl
and_false false = refl

-- a stroke's end is not below its start, nor past all points
pub start_within : (m a s : ℕ) → a ≤ m → (a ≤ start_after m a s) × (start_after m a s ≤ m)
start_within m a s h = go (ltb a s && ltb s m) refl
  where
    go : (b : Bool) → ltb a s && ltb s m ≡ b → (a ≤ cond b s a) × (cond b s a ≤ m)
    go true e =
        let t = both (ltb a s) (ltb s m) e in
        let x = ltb-true a s t.0 in
        let y = ltb-true s m t.1 in
        (omega arith, omega arith)
    go false e = (omega arith, h)

-- of no points there is no start to take
no_start : (s : ℕ) → start_after 0 0 s ≡ 0
no_start s = rw (le-ltb s 0 zero-le, and_false (ltb 0 s))

module _ (n : ℕ) (at : ℕ → ℕ) where
  saved_none : (ss : List ℕ) → saved_from n at 0 0 ss ≡ []
  unfolding saved_from
  saved_none [] = kept-none n at 0 0 zero-le
  saved_none (s ∷ ss) = rw (no_start s, kept-none n at 0 0 zero-le) (saved_none ss)

  saved_is : (m a : ℕ) (ss : List ℕ) → a < m → saved_from n at m a ss ≡ kept_all n (strokes_of at m (a ∷ rising_from m a ss))
  unfolding saved_from rising_from strokes_of kept_all
  saved_is m a [] h = kept-is n at a m h ∙ sym (append-nil (kept_of n (gather at a (m - a))))
  saved_is m a (s ∷ ss) h = go (ltb a s && ltb s m) refl (λ d l. saved_is m d ss l)
    where
      go : (b : Bool) → ltb a s && ltb s m ≡ b → ((d : ℕ) → d < m → saved_from n at m d ss ≡ kept_all n (strokes_of at m (d ∷ rising_from m d ss)))
          → kept_from n at a (cond b s a) ++ saved_from n at m (cond b s a) ss ≡ kept_all n (strokes_of at m (a ∷ cond b (s ∷ rising_from m s ss) (rising_from m a ss)))
      go true e ih =
          let t = both (ltb a s) (ltb s m) e in
          rw (kept-is n at a s (ltb-true a s t.0), ih s (ltb-true s m t.1))
      go false e ih = rw (kept-none n at a a (omega arith)) (ih a h)

  -- by the words of the starts: with no strokes stated nothing is kept
  pub saved_all : (word : ℕ → ℕ) (m k : ℕ) → saved_by n at m k word 1 0 ≡ kept_all n (strokes_of at m (starts_taken m (gather word header_words k)))
  unfolding gather starts_taken strokes_of kept_all
  saved_all word zero zero = refl
  saved_all word (suc m) zero = refl
  saved_all word zero (suc k) = rw (le-leb 1 (suc k) (omega arith)) (saved_none (gather word (header_words + 1) (suc k - 1)))
  saved_all word (suc m) (suc k) = let e : suc k - 1 ≡ k = omega arith in rw (e, le-leb 1 (suc k) (omega arith)) (saved_is (suc m) 0 (gather word (header_words + 1) k) (omega arith))

-- all that is kept, from the stroke on that the second start ends
pub saved_words : (bs : List ℕ) → saved_by (vertices_in bs) (point_in bs) (taken_count bs) (stroke_count bs) (word_at bs) 1 0 ≡ saved_in bs
unfolding saved_in strokes_taken starts_in
saved_words bs = saved_all (vertices_in bs) (point_in bs) (word_at bs) (taken_count bs) (stroke_count bs)

-- ---- no stroke that is kept is empty

some_append : (a b : List (List ℕ)) → non_empty (a ++ b) ≡ non_empty a ++ non_empty b
unfolding non_empty
some_append [] b = refl
some_append ([] ∷ a) b = some_append a b
some_append ((x ∷ xs) ∷ a) b = rw (some_append a b)

long-some : (k : ℕ) (cs : List (List ℕ)) → 1 ≤ k → non_empty (long_ones k cs) ≡ long_ones k cs
unfolding long_ones non_empty
long-some k [] h = refl
long-some k ([] ∷ cs) h = rw (lt-leb k 0 h) (long-some k cs h)
long-some k ((x ∷ xs) ∷ cs) h = go (leb k (length (x ∷ xs))) (long-some k cs h)
  where
    go : (b : Bool) → non_empty (long_ones k cs) ≡ long_ones k cs → non_empty (cond b ((x ∷ xs) ∷ long_ones k cs) (long_ones k cs)) ≡ cond b ((x ∷ xs) ∷ long_ones k cs) (long_ones k cs)
    go true ih = rw ih
    go false ih = ih

module _ (n : ℕ) (at : ℕ → ℕ) where
  kept-some : (a e : ℕ) → non_empty (kept_from n at a e) ≡ kept_from n at a e
  unfolding kept_from kept_pieces
  kept-some a e = long-some (least_kept (e - a)) (pieces_of n (gather at a (e - a))) (some_least (least_kept (e - a)) (e - a) refl)

  from_some : (m a : ℕ) (ss : List ℕ) → non_empty (saved_from n at m a ss) ≡ saved_from n at m a ss
  unfolding saved_from
  from_some m a [] = kept-some a m
  from_some m a (s ∷ ss) = let e = start_after m a s in some_append (kept_from n at a e) (saved_from n at m e ss) ∙ rw (kept-some a e, from_some m e ss)

pub saved_some : (bs : List ℕ) → non_empty (saved_in bs) ≡ saved_in bs
unfolding non_empty
saved_some bs = rw (← saved_words bs) (go (leb 1 (stroke_count bs)))
  where
    go : (b : Bool) → let ss = cond b (saved_from (vertices_in bs) (point_in bs) (taken_count bs) 0 (gather (word_at bs) (header_words + 1) (stroke_count bs - 1))) [] in non_empty ss ≡ ss
    go true = from_some (vertices_in bs) (point_in bs) (taken_count bs) 0 (gather (word_at bs) (header_words + 1) (stroke_count bs - 1))
    go false = refl

-- ---- the starts that are taken rise

pub rising_good : (m a : ℕ) (ss : List ℕ) → good_from m a (rising_from m a ss) ≡ true
unfolding good_from rising_from
rising_good m a [] = refl
rising_good m a (s ∷ ss) = go (ltb a s && ltb s m) refl (λ d. rising_good m d ss)
  where
    go : (b : Bool) → ltb a s && ltb s m ≡ b → ((d : ℕ) → good_from m d (rising_from m d ss) ≡ true) → good_from m a (cond b (s ∷ rising_from m s ss) (rising_from m a ss)) ≡ true
    go true e ih =
        let t = both (ltb a s) (ltb s m) e in
        let x = ltb-true a s t.0 in
        let y = ltb-true s m t.1 in
        rw (le-leb a s (omega arith), le-leb s m (omega arith), ih s)
    go false e ih = ih a

-- the strokes taken have all points; with no strokes stated none
taken_joined : (at word : ℕ → ℕ) (m k : ℕ) → joined (strokes_of at m (starts_taken m (gather word header_words k))) ≡ gather at 0 (cond (eqb k 0) 0 m)
unfolding gather starts_taken strokes_of joined
taken_joined at word zero zero = refl
taken_joined at word (suc m) zero = refl
taken_joined at word zero (suc k) = rw (ne_eqb (suc k) 0 (λ q. omega arith))
taken_joined at word (suc m) (suc k) =
    let e : suc m - 0 ≡ suc m = omega arith in
    rw (ne_eqb (suc k) 0 (λ q. omega arith)) (joined-from at (suc m) 0 (rising_from (suc m) 0 (gather word (header_words + 1) k)) zero-le (rising_good (suc m) 0 (gather word (header_words + 1) k)) ∙ ap (gather at 0) e)

pub joined-taken : (bs : List ℕ) → joined (strokes_taken bs) ≡ gather (point_in bs) 0 (stroked_count bs)
unfolding strokes_taken starts_in
joined-taken bs = taken_joined (point_in bs) (word_at bs) (taken_count bs) (stroke_count bs)

-- ---- those that are not taken are ignored

pub ignored_count : (m a : ℕ) (ss : List ℕ) → ignored_from m a ss + length (rising_from m a ss) ≡ length ss
unfolding ignored_from rising_from
ignored_count m a [] = refl
ignored_count m a (s ∷ ss) = go (ltb a s && ltb s m) (λ d. ignored_count m d ss)
  where
    go : (b : Bool) → ((d : ℕ) → ignored_from m d ss + length (rising_from m d ss) ≡ length ss) → cond b 0 1 + ignored_from m (cond b s a) ss + length (cond b (s ∷ rising_from m s ss) (rising_from m a ss)) ≡ suc (length ss)
    go true ih = omega (arith, ih s)
    go false ih = omega (arith, ih a)

-- ---- by the words of the starts

pub changed-few : (x y r : ℕ) → r ≡ changed x y → r ≤ 1
changed-few x y r e = rw e (go (eqb x y))
  where
    go : (b : Bool) → cond b 0 1 ≤ 1
    go true = omega arith
    go false = omega arith

-- a stroke without points tells that a start is ignored
pub start_told : (m a s : ℕ) → num (eqb a (start_after m a s)) ≡ cond (ltb a s && ltb s m) 0 1
start_told m a s = go (ltb a s && ltb s m) refl
  where
    go : (b : Bool) → ltb a s && ltb s m ≡ b → num (eqb a (cond b s a)) ≡ cond b 0 1
    go true e = let l = ltb-true a s (both (ltb a s) (ltb s m) e).0 in rw (ne_eqb a s (λ q. omega arith))
    go false e = rw (eq-eqb a a refl)

pub start_below : (m a s : ℕ) → a ≤ m - 1 → start_after m a s ≤ m - 1
start_below m a s h = go (ltb a s && ltb s m) refl
  where
    go : (b : Bool) → ltb a s && ltb s m ≡ b → cond b s a ≤ m - 1
    go true e = let l = ltb-true s m (both (ltb a s) (ltb s m) e).1 in omega arith
    go false e = h

-- with no points all are ignored
none-rising : (ss : List ℕ) → rising_from 0 0 ss ≡ []
unfolding rising_from
none-rising [] = refl
none-rising (s ∷ ss) = rw (le-ltb s 0 zero-le, and_false (ltb 0 s)) (none-rising ss)

-- what is ignored of all starts, by how many strokes have no points
pub ignored_all : (m : ℕ) (word : ℕ → ℕ) (k x : ℕ) → x ≡ ignored_by m k word 1 0 → cond (eqb k 0) x (cond (eqb m 0) x (changed (word header_words) 0 + x)) ≡ ignored_of m (gather word header_words k)
unfolding gather ignored_of
ignored_all zero word zero x e = e
ignored_all (suc m) word zero x e = e
ignored_all zero word (suc k) x e =
    let ss = gather word (header_words + 1) k in
    let z : suc k - 1 ≡ k = omega arith in
    let f : x ≡ ignored_from 0 0 ss + 1 = e ∙ rw (le-leb 1 (suc k) (omega arith), z) in
    rw (ne_eqb (suc k) 0 (λ q. omega arith)) (omega (arith, f, ignored_count 0 0 ss, ap length (none-rising ss)))
ignored_all (suc m) word (suc k) x e =
    let ss = gather word (header_words + 1) k in
    let z : suc k - 1 ≡ k = omega arith in
    let f : x ≡ ignored_from (suc m) 0 ss + 0 = e ∙ rw (le-leb 1 (suc k) (omega arith), z, ne_eqb (suc m) 0 (λ q. omega arith)) in
    let c = ignored_count (suc m) 0 ss in
    rw (ne_eqb (suc k) 0 (λ q. omega arith), ne_eqb (suc m) 0 (λ q. omega arith)) (omega (arith, f))
