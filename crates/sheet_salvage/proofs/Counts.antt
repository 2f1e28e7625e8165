-- Every point that is taken is written, dropped for its number, or a leftover.
use mathlib.Core.Path.{◌≡◌, refl, ap, ◌∙◌}
use mathlib.Core.Bool.{Bool, true, false, cond}
use mathlib.Core.List.{List, [], ◌∷◌, ◌++◌, append-nil}
use Prim.Native.Nat.{ℕ, suc, ◌+◌}
use native.Mathlib.Omega.{arith}
use lib.ListN.{length, length-append}
use lib.Dec.{ltb, eqb}
use borrow.Author.Tests.{le-leb, ne_eqb}
use Rattle.path.specs.Laid.{joined}
use Rattle.path.proofs.Tests.{both}
use Rattle.path.proofs.Gathers.{length-gather}
use Rattle.mesh.specs.Meshes.{all_below}
use Rattle.sheet.specs.Sheets.{vertices_in, stroke_count}
use Rattle.sheet_salvage.specs.Salvage.{taken_count, point_in, strokes_taken, longer, pieces_of, long_ones, kept_of, kept_all, saved_in, wild_of, wild_in, lones_of, lones_all, leftovers_in}
use Rattle.sheet_salvage.specs.InnerPieces.{stroked_count}
use Rattle.sheet_salvage.proofs.Lays.{joined-append}
use Rattle.sheet_salvage.proofs.Starts.{joined-taken}

joined-longer : (p : ℕ) (cs : List (List ℕ)) → length (joined (longer p cs)) ≡ suc (length (joined cs))
unfolding longer joined
joined-longer p [] = refl
joined-longer p (c ∷ cs) = refl

pieces_count : (n : ℕ) (s : List ℕ) → length s ≡ length (joined (pieces_of n s)) + wild_of n s
unfolding pieces_of wild_of joined
pieces_count n [] = refl
pieces_count n (p ∷ s) = go (ltb p n) (pieces_count n s)
  where
    go : (b : Bool) → length s ≡ length (joined (pieces_of n s)) + wild_of n s → suc (length s) ≡ length (joined (cond b (longer p (pieces_of n s)) ([] ∷ pieces_of n s))) + (cond b 0 1 + wild_of n s)
    go true ih = omega (arith, joined-longer p (pieces_of n s))
    go false ih = omega arith

lones_count : (cs : List (List ℕ)) → length (joined cs) ≡ length (joined (long_ones 2 cs)) + lones_of cs
unfolding long_ones lones_of joined
lones_count [] = refl
lones_count ([] ∷ cs) = omega (arith, lones_count cs)
lones_count ((p ∷ []) ∷ cs) = omega (arith, lones_count cs)
lones_count ((p ∷ q ∷ c) ∷ cs) =
    let l = length-append c (joined cs) in
    let r = length-append c (joined (long_ones 2 cs)) in
    rw (le-leb 2 (length (p ∷ q ∷ c)) (omega arith), ne_eqb (length (p ∷ q ∷ c)) 1 (λ z. omega arith)) (omega (arith, lones_count cs))

pub wild_none : (n : ℕ) (s : List ℕ) → all_below n s ≡ true → wild_of n s ≡ 0
unfolding wild_of all_below
wild_none n [] h = refl
wild_none n (p ∷ s) h = let t = both (ltb p n) (all_below n s) h in rw (t.0, wild_none n s t.1)

wild_append : (n : ℕ) (a b : List ℕ) → wild_of n (a ++ b) ≡ wild_of n a + wild_of n b
unfolding wild_of
wild_append n [] b = omega arith
wild_append n (p ∷ a) b = omega (arith, wild_append n a b)

kept-count : (n : ℕ) (s : List ℕ) → length s ≡ length (joined (kept_of n s)) + wild_of n s + cond (all_below n s) 0 (lones_of (pieces_of n s))
unfolding kept_of joined
kept-count n s = go (all_below n s) refl
  where
    go : (b : Bool) → all_below n s ≡ b → length s ≡ length (joined (cond b (s ∷ []) (long_ones 2 (pieces_of n s)))) + wild_of n s + cond b 0 (lones_of (pieces_of n s))
    go true e = omega (arith, wild_none n s e, ap length (append-nil s))
    go false e = omega (arith, pieces_count n s, lones_count (pieces_of n s))

all_count : (n : ℕ) (ss : List (List ℕ)) → length (joined ss) ≡ length (joined (kept_all n ss)) + wild_of n (joined ss) + lones_all n ss
unfolding kept_all lones_all wild_of joined
all_count n [] = refl
all_count n (s ∷ ss) =
    omega (arith, kept-count n s, all_count n ss, length-append s (joined ss), ap length (joined-append (kept_of n s) (kept_all n ss)), length-append (joined (kept_of n s)) (joined (kept_all n ss)), wild_append n s (joined ss))

pub taken_count_lem : (bs : List ℕ) → taken_count bs ≡ length (joined (saved_in bs)) + wild_in bs + leftovers_in bs
unfolding saved_in wild_in leftovers_in
taken_count_lem bs = go (eqb (stroke_count bs) 0) refl
  where
    go : (b : Bool) → eqb (stroke_count bs) 0 ≡ b → taken_count bs ≡ length (joined (kept_all (vertices_in bs) (strokes_taken bs))) + wild_of (vertices_in bs) (joined (strokes_taken bs)) + cond b (taken_count bs) (lones_all (vertices_in bs) (strokes_taken bs))
    go b e =
        let m = taken_count bs in
        let l : length (joined (strokes_taken bs)) ≡ cond b 0 m = ap length (joined-taken bs) ∙ length-gather (point_in bs) 0 (stroked_count bs) ∙ ap (λ (x : Bool). cond x 0 m) e in
        sums b m _ _ _ l (all_count (vertices_in bs) (strokes_taken bs))
      where
        sums : (b : Bool) (m : ℕ) {t : ℕ} (x y z : ℕ) → t ≡ cond b 0 m → t ≡ x + y + z → m ≡ x + y + cond b m z
        sums true m x y z e f = omega arith
        sums false m x y z e f = omega arith
