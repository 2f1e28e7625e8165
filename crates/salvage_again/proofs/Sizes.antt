-- What is written is no longer than what was given: a piece's start has the place of the point that was cut out before it.
use mathlib.Core.Path.{◌≡◌, refl, ap}
use mathlib.Core.Bool.{Bool, true, false, cond}
use mathlib.Core.List.{List, [], ◌∷◌, append-nil}
use Prim.Native.Nat.{ℕ, zero, suc, zero-le, ◌+◌, ◌≤◌, ◌<◌}
use native.Mathlib.Omega.{arith}
use lib.ListN.{length, length-append}
use lib.Dec.{leb, ltb, eqb}
use Rattle.path.specs.Strokes.{gather}
use Rattle.path.specs.Laid.{non_empty, joined, starts_from}
use Rattle.path.proofs.Again.{strokes_count}
use Rattle.path.proofs.Gathers.{length-gather}
use Rattle.path.proofs.Pushes.{length-starts, no_more_kept}
use Rattle.mesh.specs.Meshes.{all_below}
use Rattle.sheet.specs.Sheets.{header_words, word_at, mode_in, vertices_in, stroke_count, starts_in, sheet_of}
use Rattle.sheet.proofs.Sizes.{words_size}
use Rattle.sheet_salvage.specs.Salvage.{taken_count, point_in, starts_taken, strokes_taken, longer, pieces_of, long_ones, kept_of, kept_all, saved_in}
use Rattle.sheet_salvage.specs.InnerPieces.{stroked_count}
use Rattle.sheet_salvage.specs.Call.{salvaged}
use Rattle.sheet_salvage.proofs.Held.{taken_few}
use Rattle.sheet_salvage.proofs.Lays.{joined-append}
use Rattle.sheet_salvage.proofs.Starts.{joined-taken, ignored_count}
use Rattle.salvage_again.specs.Promises.{FitsItsOwn}

-- ---- words for strokes and their points: what is kept needs no more than what is taken
abbrev words_for : List (List ℕ) → ℕ
words_for ss = length ss + length (joined ss)

pieces_words : (n : ℕ) (s : List ℕ) → (0 < length (pieces_of n s)) × (words_for (pieces_of n s) ≡ length s + 1)
unfolding pieces_of longer joined
pieces_words n [] = (omega arith, refl)
pieces_words n (p ∷ s) = go (ltb p n) (pieces_of n s) (pieces_words n s)
  where
    go : (b : Bool) (cs : List (List ℕ)) → (0 < length cs) × (words_for cs ≡ length s + 1) → let all = cond b (longer p cs) ([] ∷ cs) in (0 < length all) × (words_for all ≡ length (p ∷ s) + 1)
    go true [] h = absurd (omega (arith, h.0))
    go true (c ∷ cs) h = (omega arith, omega (arith, h.1))
    go false cs h = (omega arith, omega (arith, h.1))

long-words : (k : ℕ) (cs : List (List ℕ)) → words_for (long_ones k cs) ≤ words_for cs
unfolding long_ones joined
long-words k [] = omega arith
long-words k (c ∷ cs) = go (leb k (length c)) (long-words k cs)
  where
    go : (b : Bool) → words_for (long_ones k cs) ≤ words_for cs → words_for (cond b (c ∷ long_ones k cs) (long_ones k cs)) ≤ words_for (c ∷ cs)
    go true ih = omega (arith, ih, length-append c (joined (long_ones k cs)), length-append c (joined cs))
    go false ih = omega (arith, ih, length-append c (joined cs))

kept-words : (n : ℕ) (s : List ℕ) → words_for (kept_of n s) ≤ length s + 1
unfolding kept_of joined
kept-words n s = go (all_below n s)
  where
    go : (b : Bool) → words_for (cond b (s ∷ []) (long_ones 2 (pieces_of n s))) ≤ length s + 1
    go true = omega (arith, ap length (append-nil s))
    go false = omega (arith, long-words 2 (pieces_of n s), (pieces_words n s).1)

all_words : (n : ℕ) (ss : List (List ℕ)) → words_for (kept_all n ss) ≤ words_for ss
unfolding kept_all joined
all_words n [] = omega arith
all_words n (s ∷ ss) =
    omega (arith, kept-words n s, all_words n ss, length-append (kept_of n s) (kept_all n ss), ap length (joined-append (kept_of n s) (kept_all n ss)), length-append (joined (kept_of n s)) (joined (kept_all n ss)), length-append s (joined ss))

-- ---- no more is taken than the bytes hold

few_starts : (m : ℕ) (ss : List ℕ) → length (starts_taken m ss) ≤ length ss
unfolding starts_taken
few_starts zero ss = zero-le
few_starts (suc m) [] = omega arith
few_starts (suc m) (s ∷ ss) = omega (arith, ignored_count (suc m) 0 ss)

stroked_few : (bs : List ℕ) → stroked_count bs ≤ taken_count bs
stroked_few bs = go (eqb (stroke_count bs) 0)
  where
    go : (b : Bool) → cond b 0 (taken_count bs) ≤ taken_count bs
    go true = zero-le
    go false = omega arith

-- ---- the sheet that is written

saved_words : (bs : List ℕ) → words_for (saved_in bs) ≤ stroke_count bs + taken_count bs
unfolding saved_in strokes_taken starts_in
saved_words bs =
    let ss = gather (word_at bs) header_words (stroke_count bs) in
    omega (arith, all_words (vertices_in bs) (strokes_taken bs), strokes_count (point_in bs) (taken_count bs) (starts_taken (taken_count bs) ss), few_starts (taken_count bs) ss, length-gather (word_at bs) header_words (stroke_count bs), ap length (joined-taken bs), length-gather (point_in bs) 0 (stroked_count bs), stroked_few bs)

pub salvaged-size : (bs : List ℕ) → FitsItsOwn bs
unfolding salvaged sheet_of
salvaged-size bs h =
    let s = saved_in bs in
    omega (arith, words_size (mode_in bs) (vertices_in bs) (starts_from 0 (non_empty s)) (joined s), length-starts 0 (non_empty s), no_more_kept s, saved_words bs, (taken_few bs).0)
