-- Each stroke that is kept is a run of neighbours.
use mathlib.Core.Path.{◌≡◌, refl, sym, ap}
use mathlib.Core.Bool.{Bool, true, false, cond}
use mathlib.Core.List.{List, [], ◌∷◌, ◌++◌}
use Prim.Native.Nat.{ℕ, zero, suc, zero-le, ◌+◌, ◌-◌, ◌≤◌, ◌<◌}
use native.Mathlib.Omega.{arith}
use lib.ListN.{length}
use lib.Dec.{leb, ltb}
use Rattle.refusal.specs.Each.{Each}
use Rattle.path.specs.Strokes.{good_from, gather, strokes_of}
use Rattle.path.proofs.Gathers.{length-gather}
use Rattle.path.proofs.Starts.{table_next}
use Rattle.mesh.specs.Meshes.{all_below}
use Rattle.sheet.specs.Sheets.{vertices_in, starts_in}
use Rattle.sheet_salvage.specs.Salvage.{taken_count, point_in, rising_from, starts_taken, strokes_taken, longer, pieces_of, long_ones, kept_of, kept_all, saved_in}
use Rattle.sheet_salvage.proofs.Starts.{rising_good}
use Rattle.salvage_again.specs.Promises.{Run}

-- what holds for each of two lists holds for each of both together
each_append : {A : Type 0} (P : A → Type 0) (a b : List A) → Each P a → Each P b → Each P (a ++ b)
each_append P [] b p q = q
each_append P (x ∷ a) b p q = (p.0, each_append P a b p.1 q)

module _ (n : ℕ) (at : ℕ → ℕ) (m : ℕ) where
  -- the first piece begins at a, the others lie behind
  abbrev Lie : ℕ → List (List ℕ) → Type 0
  Lie a [] = Unit {0}
  Lie a (c ∷ cs) = ((a + length c ≤ m) × (c ≡ gather at a (length c))) × Each (Run at m) cs

  lie_each : (a : ℕ) (cs : List (List ℕ)) → Lie a cs → Each (Run at m) cs
  lie_each a [] l = tt
  lie_each a (c ∷ cs) l = (record { first = a; within = omega (arith, l.0.0); same = l.0.1 }, l.1)

  longer-lie : (a : ℕ) (cs : List (List ℕ)) → a < m → Lie (a + 1) cs → Lie a (longer (at a) cs)
  unfolding longer gather
  longer-lie a [] h l = ((omega arith, refl), tt)
  longer-lie a (c ∷ cs) h l = ((omega (arith, l.0.0), ap (λ (x : List ℕ). at a ∷ x) l.0.1), l.1)

  pieces_lie : (a k : ℕ) → a + k ≤ m → Lie a (pieces_of n (gather at a k))
  unfolding pieces_of gather
  pieces_lie a zero h = ((omega arith, refl), tt)
  pieces_lie a (suc k) h = go (pieces_of n (gather at (a + 1) k)) (pieces_lie (a + 1) k (omega arith)) (ltb (at a) n)
    where
      go : (cs : List (List ℕ)) → Lie (a + 1) cs → (b : Bool) → Lie a (cond b (longer (at a) cs) ([] ∷ cs))
      go cs l true = longer-lie a cs (omega arith) l
      go cs l false = ((omega arith, refl), lie_each (a + 1) cs l)

  -- what is kept of pieces, of a stroke and of all strokes
  long-each : (k : ℕ) (cs : List (List ℕ)) → Each (Run at m) cs → Each (Run at m) (long_ones k cs)
  unfolding long_ones
  long-each k [] e = tt
  long-each k (c ∷ cs) e = go (long_ones k cs) (long-each k cs e.1) (leb k (length c))
    where
      go : (ds : List (List ℕ)) → Each (Run at m) ds → (b : Bool) → Each (Run at m) (cond b (c ∷ ds) ds)
      go ds d true = (e.0, d)
      go ds d false = d

  kept-runs : (a k : ℕ) → a + k ≤ m → Each (Run at m) (kept_of n (gather at a k))
  unfolding kept_of
  kept-runs a k h = go (all_below n (gather at a k))
    where
      l : length (gather at a k) ≡ k
      l = length-gather at a k

      go : (b : Bool) → Each (Run at m) (cond b (gather at a k ∷ []) (long_ones 2 (pieces_of n (gather at a k))))
      go true = (record { first = a; within = omega (arith, l); same = ap (gather at a) (sym l) }, tt)
      go false = long-each 2 (pieces_of n (gather at a k)) (lie_each a (pieces_of n (gather at a k)) (pieces_lie a k h))

  from-runs : (s : ℕ) (ss : List ℕ) → s ≤ m → good_from m s ss ≡ true → Each (Run at m) (kept_all n (strokes_of at m (s ∷ ss)))
  unfolding strokes_of kept_all
  from-runs s [] h g = each_append (Run at m) (kept_of n (gather at s (m - s))) [] (kept-runs s (m - s) (omega arith)) tt
  from-runs s (t ∷ ss) h g =
      let k = table_next m s t ss g in
      each_append (Run at m) (kept_of n (gather at s (t - s))) (kept_all n (strokes_of at m (t ∷ ss))) (kept-runs s (t - s) (omega (arith, k.0, k.1))) (from-runs t ss k.1 k.2)

-- with the starts that are taken
all_runs : (n : ℕ) (at : ℕ → ℕ) (m : ℕ) (ss : List ℕ) → Each (Run at m) (kept_all n (strokes_of at m (starts_taken m ss)))
unfolding starts_taken strokes_of kept_all
all_runs n at zero ss = tt
all_runs n at (suc m) [] = tt
all_runs n at (suc m) (s ∷ ss) = from-runs n at (suc m) 0 (rising_from (suc m) 0 ss) zero-le (rising_good (suc m) 0 ss)

pub saved_runs : (bs : List ℕ) → Each (Run (point_in bs) (taken_count bs)) (saved_in bs)
unfolding saved_in strokes_taken
saved_runs bs = all_runs (vertices_in bs) (point_in bs) (taken_count bs) (starts_in bs)
