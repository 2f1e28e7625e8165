-- A stroke cut into pieces, and those that are kept.
use mathlib.Core.Path.{◌≡◌, refl, sym, ap, ◌∙◌}
use mathlib.Core.Bool.{Bool, true, false, ◌&&◌, cond}
use mathlib.Core.List.{List, [], ◌∷◌}
use Prim.Native.Nat.{ℕ, ◌-◌, ◌≤◌, ◌<◌}
use native.Mathlib.Omega.{arith}
use lib.ListN.{length}
use lib.Dec.{ltb}
use borrow.Author.Tests.{le-leb, lt-leb, le-ltb}
use Rattle.path.specs.Strokes.{gather}
use Rattle.path.proofs.Gathers.{gather_none, length-gather}
use Rattle.path.proofs.Tests.{both}
use Rattle.mesh.specs.Meshes.{all_below}
use Rattle.sheet_salvage.specs.Salvage.{longer, pieces_of, long_ones, kept_of}
use Rattle.sheet_salvage.specs.InnerPieces.{least_kept, kept_pieces, kept_from}

-- where all points are below n there is one piece
pub pieces_all : (n : ℕ) (g : List ℕ) → all_below n g ≡ true → pieces_of n g ≡ g ∷ []
unfolding pieces_of longer all_below
pieces_all n [] h = refl
pieces_all n (p ∷ g) h =
    let t = both (ltb p n) (all_below n g) h in
    rw (t.0, pieces_all n g t.1)

module _ (n : ℕ) (at : ℕ → ℕ) (least : ℕ) (some : 1 ≤ least) where
  -- of no points nothing is kept
  pub pieces_end : (i e : ℕ) → e ≤ i → kept_pieces n at least i e ≡ []
  unfolding kept_pieces pieces_of long_ones
  pieces_end i e h = rw (gather_none at i e h, lt-leb least 0 some)

kept-long : (n : ℕ) (s : List ℕ) → 2 ≤ length s → (b : Bool) → all_below n s ≡ b → long_ones 2 (pieces_of n s) ≡ cond b (s ∷ []) (long_ones 2 (pieces_of n s))
unfolding long_ones
kept-long n s h true e = ap (long_ones 2) (pieces_all n s e) ∙ rw (le-leb 2 (length s) h)
kept-long n s h false e = refl

-- what the least piece says of a stroke with points is the rule
kept-list : (n : ℕ) (s : List ℕ) → 0 < length s → long_ones (least_kept (length s)) (pieces_of n s) ≡ kept_of n s
unfolding long_ones pieces_of longer kept_of all_below
kept-list n [] h = absurd (omega arith)
kept-list n (p ∷ []) h = go (ltb p n)
  where
    go : (b : Bool) → long_ones 1 (cond b ((p ∷ []) ∷ []) ([] ∷ [] ∷ [])) ≡ cond (b && true) ((p ∷ []) ∷ []) (long_ones 2 (cond b ((p ∷ []) ∷ []) ([] ∷ [] ∷ [])))
    go true = refl
    go false = refl
kept-list n (p ∷ q ∷ r) h = rw (le-ltb (length (p ∷ q ∷ r)) 2 (omega arith)) (kept-long n (p ∷ q ∷ r) (omega arith) (all_below n (p ∷ q ∷ r)) refl)

pub kept-is : (n : ℕ) (at : ℕ → ℕ) (a e : ℕ) → a < e → kept_from n at a e ≡ kept_of n (gather at a (e - a))
unfolding kept_from kept_pieces
kept-is n at a e h =
    let l = length-gather at a (e - a) in
    ap (λ (k : ℕ). long_ones (least_kept k) (pieces_of n (gather at a (e - a)))) (sym l) ∙ kept-list n (gather at a (e - a)) (omega arith)

least-some : (k : ℕ) → 1 ≤ least_kept k
least-some k = go (ltb k 2)
  where
    go : (b : Bool) → 1 ≤ cond b 1 2
    go true = omega arith
    go false = omega arith

pub some_least : (least k : ℕ) → least ≡ least_kept k → 1 ≤ least
some_least least k e = omega (arith, least-some k)

pub kept-none : (n : ℕ) (at : ℕ → ℕ) (a e : ℕ) → e ≤ a → kept_from n at a e ≡ []
unfolding kept_from
kept-none n at a e h = pieces_end n at (least_kept (e - a)) (least-some (e - a)) a e h
