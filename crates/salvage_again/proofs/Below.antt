-- What is kept has numbers below the vertex count alone, and is all where no number was at fault.
use mathlib.Core.Path.{◌≡◌, refl}
use mathlib.Core.Bool.{Bool, true, false, cond}
use mathlib.Core.List.{List, [], ◌∷◌, ◌++◌, append-nil}
use Prim.Native.Nat.{ℕ, zero, suc, ◌+◌, ◌/◌, ◌%◌, ◌<◌}
use native.Mathlib.Omega.{arith}
use lib.ListN.{length}
use lib.Dec.{leb, ltb}
use borrow.Author.Tests.{lt-ltb}
use Rattle.byte_words.specs.Bytes.{bytes_of, bytes_all}
use Rattle.path.specs.Strokes.{gather}
use Rattle.path.specs.Laid.{joined}
use Rattle.path.proofs.Tests.{both}
use Rattle.mesh.specs.Meshes.{all_below}
use Rattle.sheet.proofs.Back.{below_both}
use Rattle.sheet_salvage.specs.Salvage.{longer, pieces_of, long_ones, kept_of, kept_all}
use Rattle.sheet_salvage.proofs.Lays.{joined-append}

-- ---- lists of numbers below a limit

below_apart : (n : ℕ) (a b : List ℕ) → all_below n (a ++ b) ≡ true → (all_below n a ≡ true) × (all_below n b ≡ true)
unfolding all_below
below_apart n [] b h = (refl, h)
below_apart n (x ∷ a) b h =
    let t = both (ltb x n) (all_below n (a ++ b)) h in
    let u = below_apart n a b t.1 in
    (rw t.0 u.0, u.1)

pub below-gather : (n : ℕ) (f : ℕ → ℕ) (a k : ℕ) → ((j : ℕ) → j < a + k → f j < n) → all_below n (gather f a k) ≡ true
unfolding all_below gather
below-gather n f a zero h = refl
below-gather n f a (suc k) h = rw (lt-ltb (f a) n (h a (omega arith)), below-gather n f (a + 1) k (λ j l. h j (omega arith)))

-- ---- all of it, where no number is at fault

pub kept_whole : (n : ℕ) (ss : List (List ℕ)) → all_below n (joined ss) ≡ true → kept_all n ss ≡ ss
unfolding kept_all kept_of joined
kept_whole n [] h = refl
kept_whole n (s ∷ ss) h = let t = below_apart n s (joined ss) h in rw (t.0, kept_whole n ss t.1)

-- ---- numbers below n alone

joined-longer : (p : ℕ) (cs : List (List ℕ)) → joined (longer p cs) ≡ p ∷ joined cs
unfolding longer joined
joined-longer p [] = refl
joined-longer p (c ∷ cs) = refl

pieces_below : (n : ℕ) (s : List ℕ) → all_below n (joined (pieces_of n s)) ≡ true
unfolding pieces_of all_below joined
pieces_below n [] = refl
pieces_below n (p ∷ s) = go (ltb p n) refl (pieces_below n s)
  where
    go : (b : Bool) → ltb p n ≡ b → all_below n (joined (pieces_of n s)) ≡ true → all_below n (joined (cond b (longer p (pieces_of n s)) ([] ∷ pieces_of n s))) ≡ true
    go true e ih = rw (joined-longer p (pieces_of n s), e) ih
    go false e ih = ih

long-below : (n k : ℕ) (cs : List (List ℕ)) → all_below n (joined cs) ≡ true → all_below n (joined (long_ones k cs)) ≡ true
unfolding long_ones joined
long-below n k [] h = h
long-below n k (c ∷ cs) h = let t = below_apart n c (joined cs) h in go (leb k (length c)) t.0 (long-below n k cs t.1)
  where
    go : (b : Bool) → all_below n c ≡ true → all_below n (joined (long_ones k cs)) ≡ true → all_below n (joined (cond b (c ∷ long_ones k cs) (long_ones k cs))) ≡ true
    go true f ih = below_both n c (joined (long_ones k cs)) f ih
    go false f ih = ih

one_below : (n : ℕ) (s : List ℕ) → all_below n (joined (kept_of n s)) ≡ true
unfolding kept_of joined
one_below n s = go (all_below n s) refl
  where
    go : (b : Bool) → all_below n s ≡ b → all_below n (joined (cond b (s ∷ []) (long_ones 2 (pieces_of n s)))) ≡ true
    go true e = rw (append-nil s) e
    go false e = long-below n 2 (pieces_of n s) (pieces_below n s)

pub kept-below : (n : ℕ) (ss : List (List ℕ)) → all_below n (joined (kept_all n ss)) ≡ true
unfolding kept_all joined all_below
kept-below n [] = refl
kept-below n (s ∷ ss) = rw (joined-append (kept_of n s) (kept_all n ss)) (below_both n (joined (kept_of n s)) (joined (kept_all n ss)) (one_below n s) (kept-below n ss))

-- ---- what is stored of words are bytes

pub bytes_below : (ws : List ℕ) → all_below 256 (bytes_all ws) ≡ true
unfolding all_below bytes_all bytes_of
bytes_below [] = refl
bytes_below (w ∷ ws) =
    let a : w % 256 < 256 = omega arith in
    let b : w / 256 % 256 < 256 = omega arith in
    let d : w / 256 / 256 % 256 < 256 = omega arith in
    let e : w / 256 / 256 / 256 % 256 < 256 = omega arith in
    rw (lt-ltb (w % 256) 256 a, lt-ltb (w / 256 % 256) 256 b, lt-ltb (w / 256 / 256 % 256) 256 d, lt-ltb (w / 256 / 256 / 256 % 256) 256 e) (bytes_below ws)
