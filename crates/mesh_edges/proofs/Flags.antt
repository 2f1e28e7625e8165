-- The flags, written pair after pair of a list of flips.
use mathlib.Core.Path.{◌≡◌, refl, sym, ap, ◌∙◌}
use mathlib.Core.Bool.{Bool, true, false, cond, ◌&&◌, ◌||◌}
use mathlib.Core.Logic.{◌⊎◌, inl, inr, ◌≢◌}
use mathlib.Core.List.{List, [], ◌∷◌, ◌++◌, map}
use Prim.Native.Nat.{ℕ, zero, suc, ◌+◌, ◌*◌, ◌/◌, ◌<◌, ◌≤◌}
use native.Mathlib.Omega.{arith}
use native.Mathlib.Decide.{ℕ_discrete}
use lib.Dec.{eqb}
use lib.ListN.{length, get_or, set, replicate, length-set, length-replicate, get_or-replicate, get_or-eq_default}
use lib.Seq.{get_or-set_same, get_or-set_other, ext_get_or}
use Rattle.order.proofs.Tests.{truth, clash, eqb-false, eqb-self, le-or}
use Rattle.mesh_edges.specs.Edges.{face_of, up_from, edges_of}
use Rattle.mesh_edges.specs.Flips.{flipped}
use Rattle.mesh_edges.specs.InnerWords.{flag_by, flag_of}
use Rattle.mesh_edges.specs.InnerSteps.{mate_on, flag_at, flag_pair, flag_all, marks}
use Rattle.mesh_edges.proofs.Ups.{map_at, map-length}
use Rattle.mesh_edges.proofs.Mates.{marks-at, edges_apart}

pub mate_off : (y m : ℕ) → m ≡ 0 → mate_on y m ≡ false
unfolding mate_on
mate_off y m h = rw h

pub mate_is : (y m l : ℕ) → m ≡ suc l → mate_on y m ≡ eqb y (face_of l)
unfolding mate_on
mate_is y m l h = rw h

-- a mate lies within the list
pub mate_within : (m : List ℕ) (y k : ℕ) → mate_on y (get_or m k 0) ≡ true → k < length m
mate_within m y k h = go (le-or (length m) k)
  where
    go : (length m ≤ k) ⊎ (k < length m) → k < length m
    go (inl b) = absurd (clash h (mate_off y (get_or m k 0) (get_or-eq_default m 0 b)))
    go (inr b) = b

pub flag_yes : (m : List ℕ) (y k : ℕ) (f : List ℕ) → mate_on y (get_or m k 0) ≡ true → flag_at m y k f ≡ set f k 1
unfolding flag_at
flag_yes m y k f h = rw h

pub flag_no : (m : List ℕ) (y k : ℕ) (f : List ℕ) → mate_on y (get_or m k 0) ≡ false → flag_at m y k f ≡ f
unfolding flag_at
flag_no m y k f h = rw h

pub flag_length : (m : List ℕ) (y k : ℕ) (f : List ℕ) → length (flag_at m y k f) ≡ length f
flag_length m y k f = go (truth (mate_on y (get_or m k 0)))
  where
    go : (mate_on y (get_or m k 0) ≡ true) ⊎ (mate_on y (get_or m k 0) ≡ false) → length (flag_at m y k f) ≡ length f
    go (inl h) = ap length (flag_yes m y k f h) ∙ length-set f k 1
    go (inr h) = ap length (flag_no m y k f h)

flag_same : (m : List ℕ) (y k : ℕ) (f : List ℕ) → k < length f → get_or (flag_at m y k f) k 0 ≡ cond (mate_on y (get_or m k 0)) 1 (get_or f k 0)
unfolding flag_at
flag_same m y k f h = go (mate_on y (get_or m k 0))
  where
    go : (b : Bool) → get_or (cond b (set f k 1) f) k 0 ≡ cond b 1 (get_or f k 0)
    go true = get_or-set_same f k 1 0 h
    go false = refl

flag_other : (m : List ℕ) (y j : ℕ) (f : List ℕ) (k : ℕ) → k ≢ j → get_or (flag_at m y j f) k 0 ≡ get_or f k 0
unfolding flag_at
flag_other m y j f k h = go (mate_on y (get_or m j 0))
  where
    go : (b : Bool) → get_or (cond b (set f j 1) f) k 0 ≡ get_or f k 0
    go true = get_or-set_other f j k 1 0 h
    go false = refl

pub pair_length : (m : List ℕ) (x y : ℕ) (f : List ℕ) → length (flag_pair m x y f) ≡ length f
unfolding flag_pair
pair_length m x y f = flag_length m y (3 * x + 2) _ ∙ flag_length m y (3 * x + 1) _ ∙ flag_length m y (3 * x) f

-- a pair flags the sides of its first face whose mates are of its second
pair_get : (m : List ℕ) (x y : ℕ) (f : List ℕ) (k : ℕ) → k < length f → get_or (flag_pair m x y f) k 0 ≡ cond (eqb x (face_of k) && mate_on y (get_or m k 0)) 1 (get_or f k 0)
unfolding flag_pair
pair_get m x y f k h = elim (ℕ_discrete x (k / 3)) [ yes e ↦ rw (← e, eqb-self x) (own e) | no e ↦ rw (eqb-false x (k / 3) e) (strange e) ]
  where
    strange : x ≢ k / 3 → get_or (flag_at m y (3 * x + 2) (flag_at m y (3 * x + 1) (flag_at m y (3 * x) f))) k 0 ≡ get_or f k 0
    strange e =
        flag_other m y (3 * x + 2) (flag_at m y (3 * x + 1) (flag_at m y (3 * x) f)) k (λ q. e (omega arith)) ∙ flag_other m y (3 * x + 1) (flag_at m y (3 * x) f) k (λ q. e (omega arith))
        ∙ flag_other m y (3 * x) f k (λ q. e (omega arith))

    own : x ≡ k / 3 → get_or (flag_at m y (3 * x + 2) (flag_at m y (3 * x + 1) (flag_at m y (3 * x) f))) k 0 ≡ cond (mate_on y (get_or m k 0)) 1 (get_or f k 0)
    own e = elim (ℕ_discrete k (3 * x)) [ yes q ↦ first q | no q ↦ elim (ℕ_discrete k (3 * x + 1)) [ yes r ↦ second r | no r ↦ third (omega arith) ] ]
      where
        l1 : length (flag_at m y (3 * x) f) ≡ length f
        l1 = flag_length m y (3 * x) f

        l2 : length (flag_at m y (3 * x + 1) (flag_at m y (3 * x) f)) ≡ length f
        l2 = flag_length m y (3 * x + 1) (flag_at m y (3 * x) f) ∙ l1

        first : k ≡ 3 * x → get_or (flag_at m y (3 * x + 2) (flag_at m y (3 * x + 1) (flag_at m y (3 * x) f))) k 0 ≡ cond (mate_on y (get_or m k 0)) 1 (get_or f k 0)
        first q =
            flag_other m y (3 * x + 2) (flag_at m y (3 * x + 1) (flag_at m y (3 * x) f)) k (λ r. omega arith) ∙ flag_other m y (3 * x + 1) (flag_at m y (3 * x) f) k (λ r. omega arith)
            ∙ ap (λ (j : ℕ). get_or (flag_at m y j f) k 0) (sym q) ∙ flag_same m y k f h

        second : k ≡ 3 * x + 1 → get_or (flag_at m y (3 * x + 2) (flag_at m y (3 * x + 1) (flag_at m y (3 * x) f))) k 0 ≡ cond (mate_on y (get_or m k 0)) 1 (get_or f k 0)
        second q =
            flag_other m y (3 * x + 2) (flag_at m y (3 * x + 1) (flag_at m y (3 * x) f)) k (λ r. omega arith) ∙ ap (λ (j : ℕ). get_or (flag_at m y j (flag_at m y (3 * x) f)) k 0) (sym q)
            ∙ flag_same m y k (flag_at m y (3 * x) f) (omega (arith, l1)) ∙ ap (cond (mate_on y (get_or m k 0)) 1) (flag_other m y (3 * x) f k (λ r. omega arith))

        third : k ≡ 3 * x + 2 → get_or (flag_at m y (3 * x + 2) (flag_at m y (3 * x + 1) (flag_at m y (3 * x) f))) k 0 ≡ cond (mate_on y (get_or m k 0)) 1 (get_or f k 0)
        third q =
            ap (λ (j : ℕ). get_or (flag_at m y j (flag_at m y (3 * x + 1) (flag_at m y (3 * x) f))) k 0) (sym q) ∙ flag_same m y k (flag_at m y (3 * x + 1) (flag_at m y (3 * x) f)) (omega (arith, l2))
            ∙ ap (cond (mate_on y (get_or m k 0)) 1) (flag_other m y (3 * x + 1) (flag_at m y (3 * x) f) k (λ r. omega arith) ∙ flag_other m y (3 * x) f k (λ r. omega arith))

pub all_length : (m fs f : List ℕ) → length (flag_all m fs f) ≡ length f
unfolding flag_all
all_length m [] f = refl
all_length m (x ∷ []) f = refl
all_length m (x ∷ y ∷ fs) f = all_length m fs (flag_pair m x y f) ∙ pair_length m x y f

-- a side with no mate keeps its flag
all_off : (m fs f : List ℕ) (k : ℕ) → k < length f → get_or m k 0 ≡ 0 → get_or (flag_all m fs f) k 0 ≡ get_or f k 0
unfolding flag_all
all_off m [] f k h e = refl
all_off m (x ∷ []) f k h e = refl
all_off m (x ∷ y ∷ fs) f k h e = all_off m fs (flag_pair m x y f) k (omega (arith, pair_length m x y f)) e ∙ pair_get m x y f k h ∙ go (eqb x (face_of k))
  where
    go : (b : Bool) → cond (b && mate_on y (get_or m k 0)) 1 (get_or f k 0) ≡ get_or f k 0
    go true = rw (mate_off y (get_or m k 0) e)
    go false = refl

-- one with a mate is flagged where the list has the pair
all_on : (m fs f : List ℕ) (k l : ℕ) → k < length f → get_or m k 0 ≡ suc l → get_or (flag_all m fs f) k 0 ≡ cond (flipped (face_of k) (face_of l) fs) 1 (get_or f k 0)
unfolding flag_all flipped
all_on m [] f k l h e = refl
all_on m (x ∷ []) f k l h e = refl
all_on m (x ∷ y ∷ fs) f k l h e =
    all_on m fs (flag_pair m x y f) k l (omega (arith, pair_length m x y f)) e ∙ ap (cond (flipped (face_of k) (face_of l) fs) 1) (pair_get m x y f k h ∙ rw (mate_is y (get_or m k 0) l e))
    ∙ go (eqb x (face_of k) && eqb y (face_of l)) (flipped (face_of k) (face_of l) fs)
  where
    go : (a b : Bool) → cond b 1 (cond a 1 (get_or f k 0)) ≡ cond (a || b) 1 (get_or f k 0)
    go true true = refl
    go true false = refl
    go false true = refl
    go false false = refl

pub all_at : (m fs f : List ℕ) (k : ℕ) → k < length f → get_or f k 0 ≡ 0 → get_or (flag_all m fs f) k 0 ≡ flag_by fs k (get_or m k 0)
all_at m fs f k h z = go (get_or m k 0) refl
  where
    go : (d : ℕ) → get_or m k 0 ≡ d → get_or (flag_all m fs f) k 0 ≡ flag_by fs k d
    go zero e = all_off m fs f k h e ∙ z
    go (suc l) e = all_on m fs f k l h e ∙ ap (cond (flipped (face_of k) (face_of l) fs) 1) z

-- one pair after the other, until none is left
pub all_turn : (m pair fs f : List ℕ) → length pair ≡ 2 → flag_all m (pair ++ fs) f ≡ flag_all m fs (flag_pair m (get_or pair 0 0) (get_or pair 1 0) f)
unfolding flag_all
all_turn m [] fs f h = absurd (omega arith)
all_turn m (x ∷ []) fs f h = absurd (omega arith)
all_turn m (x ∷ y ∷ []) fs f h = refl
all_turn m (x ∷ y ∷ z ∷ s) fs f h = absurd (omega arith)

pub all_short : (m fs f : List ℕ) → length fs < 2 → flag_all m fs f ≡ f
unfolding flag_all
all_short m [] f h = refl
all_short m (x ∷ []) f h = refl
all_short m (x ∷ y ∷ fs) f h = absurd (omega arith)

-- all flags of a mesh
pub flags_are : (is flips : List ℕ) (n : ℕ) → flag_all (marks (edges_of is) (replicate n 0)) flips (replicate n 0) ≡ map (flag_of is flips) (up_from 0 n)
unfolding flag_of
flags_are is flips n =
    let r : length (replicate {A = ℕ} n 0) ≡ n = length-replicate n 0 in
    let q : length (flag_all (marks (edges_of is) (replicate n 0)) flips (replicate n 0)) ≡ n = all_length (marks (edges_of is) (replicate n 0)) flips (replicate n 0) ∙ r in
    ext_get_or 0 (flag_all (marks (edges_of is) (replicate n 0)) flips (replicate n 0)) (map (flag_of is flips) (up_from 0 n)) (q ∙ sym (map-length (flag_of is flips) n)) (λ k h.
    all_at (marks (edges_of is) (replicate n 0)) flips (replicate n 0) k (omega arith) (get_or-replicate n k 0 0 (omega arith))
    ∙ ap (flag_by flips k) (marks-at (edges_of is) (replicate n 0) k (omega arith) (edges_apart is) (get_or-replicate n k 0 0 (omega arith))) ∙ sym (map_at (flag_of is flips) n k (omega arith)))
