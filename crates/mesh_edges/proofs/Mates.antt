-- The mates, written group after group, and what the flag of an edge of two sides is.
use mathlib.Core.Path.{◌≡◌, refl, sym, ap, ◌∙◌, subst}
use mathlib.Core.Bool.{true, cond}
use mathlib.Core.Logic.{inl, inr, ◌≢◌, ⊎_elim}
use mathlib.Core.List.{List, [], ◌∷◌, ◌++◌}
use Prim.Native.Nat.{ℕ, zero, suc, ◌<◌, ◌/◌, min, max}
use native.Mathlib.Omega.{arith}
use native.Mathlib.Decide.{ℕ_discrete}
use lib.Dec.{eqb}
use lib.ListN.{length, get_or, set, length-set}
use lib.Seq.{get_or-set_same, get_or-set_other}
use Rattle.order.proofs.Tests.{eqb-false, eqb-self}
use Rattle.order.proofs.Sorted.{In, Sorted}
use Rattle.mesh_edges.specs.Edges.{face_of, pair_of, sides_of, edges_of}
use Rattle.mesh_edges.specs.Flips.{flipped}
use Rattle.mesh_edges.specs.InnerWords.{mate_in, flag_by, flag_of}
use Rattle.mesh_edges.specs.InnerSteps.{mate_mark, marks}
use Rattle.mesh_edges.proofs.Groups.{joined, joined-append, join-groups, Evens, evens_after, even_groups}
use Rattle.mesh_edges.proofs.Ups.{sides_sorted}

-- numbers that are all different
abbrev pub Apart : List ℕ → Type 0
Apart [] = Unit
Apart (x ∷ s) = (In x s → ⊥) × Apart s

pub apart-sorted : (key : ℕ → ℕ) (s : List ℕ) → Sorted key s → Apart s
apart-sorted key [] h = tt
apart-sorted key (x ∷ s) h = ((λ i. ⊎_elim (λ a. omega arith) (λ a. omega (arith, a.1)) (h.0 x i)), apart-sorted key s h.1)

apart-after : (u v : List ℕ) → Apart (u ++ v) → Apart v
apart-after [] v h = h
apart-after (x ∷ u) v h = apart-after u v h.1

in_right : (u v : List ℕ) (y : ℕ) → In y v → In y (u ++ v)
in_right [] v y i = i
in_right (x ∷ u) v y i = inr (in_right u v y i)

-- what stands on the right does not stand on the left
apart-both : (u v : List ℕ) (y : ℕ) → Apart (u ++ v) → In y v → In y u → ⊥
apart-both [] v y h i j = j
apart-both (x ∷ u) v y h i (inl e) = h.0 (in_right u v x (subst (λ (z : ℕ). In z v) e i))
apart-both (x ∷ u) v y h i (inr j) = apart-both u v y h.1 i j

sorted_after : (key : ℕ → ℕ) (u v : List ℕ) → Sorted key (u ++ v) → Sorted key v
sorted_after key [] v h = h
sorted_after key (x ∷ u) v h = sorted_after key u v h.1

-- a side that is in no group has no mate
mate_none : (gs : List (List ℕ)) (k : ℕ) → (In k (joined gs) → ⊥) → mate_in gs k ≡ 0
unfolding mate_in
mate_none [] k h = refl
mate_none ([] ∷ gs) k h = mate_none gs k h
mate_none ((a ∷ []) ∷ gs) k h = mate_none gs k (λ i. h (inr i))
mate_none ((a ∷ b ∷ []) ∷ gs) k h = rw (eqb-false a k (λ e. h (inl (sym e)))) (mate_none gs k (λ i. h (inr (inr i))))
mate_none ((a ∷ b ∷ c ∷ g) ∷ gs) k h = mate_none gs k (λ i. h (inr (inr (inr (in_right g (joined gs) k i)))))

mate_skip : (us gs : List (List ℕ)) (k : ℕ) → (In k (joined us) → ⊥) → mate_in (us ++ gs) k ≡ mate_in gs k
unfolding mate_in
mate_skip [] gs k h = refl
mate_skip ([] ∷ us) gs k h = mate_skip us gs k h
mate_skip ((a ∷ []) ∷ us) gs k h = mate_skip us gs k (λ i. h (inr i))
mate_skip ((a ∷ b ∷ []) ∷ us) gs k h = rw (eqb-false a k (λ e. h (inl (sym e)))) (mate_skip us gs k (λ i. h (inr (inr i))))
mate_skip ((a ∷ b ∷ c ∷ g) ∷ us) gs k h = mate_skip us gs k (λ i. h (inr (inr (inr (in_right g (joined us) k i)))))

mate_here : (gs : List (List ℕ)) (a b : ℕ) → mate_in ((a ∷ b ∷ []) ∷ gs) a ≡ suc b
unfolding mate_in
mate_here gs a b = rw (eqb-self a)

-- the first that is not 0
abbrev or_else : ℕ → ℕ → ℕ
or_else zero d = d
or_else (suc m) d = suc m

pub marks-size : (gs : List (List ℕ)) (m : List ℕ) → length (marks gs m) ≡ length m
unfolding marks mate_mark
marks-size [] m = refl
marks-size ([] ∷ gs) m = marks-size gs m
marks-size ((a ∷ []) ∷ gs) m = marks-size gs m
marks-size ((a ∷ b ∷ []) ∷ gs) m = marks-size gs (set m a (suc b)) ∙ length-set m a (suc b)
marks-size ((a ∷ b ∷ c ∷ g) ∷ gs) m = marks-size gs m

marks-get : (gs : List (List ℕ)) (m : List ℕ) (k : ℕ) → k < length m → Apart (joined gs) → get_or (marks gs m) k 0 ≡ or_else (mate_in gs k) (get_or m k 0)
unfolding marks mate_mark mate_in
marks-get [] m k h A = refl
marks-get ([] ∷ gs) m k h A = marks-get gs m k h A
marks-get ((a ∷ []) ∷ gs) m k h A = marks-get gs m k h A.1
marks-get ((a ∷ b ∷ c ∷ g) ∷ gs) m k h A = marks-get gs m k h (apart-after g (joined gs) A.1.1.1)
marks-get ((a ∷ b ∷ []) ∷ gs) m k h A =
    marks-get gs (set m a (suc b)) k (rw length-set h) A.1.1 ∙ elim (ℕ_discrete a k) [ yes e ↦ same e | no e ↦ other e ]
  where
    same : a ≡ k → or_else (mate_in gs k) (get_or (set m a (suc b)) k 0) ≡ or_else (cond (eqb a k) (suc b) (mate_in gs k)) (get_or m k 0)
    same e =
        let z : mate_in gs k ≡ 0 = mate_none gs k (λ i. A.0 (inr (subst (λ (y : ℕ). In y (joined gs)) (sym e) i))) in
        let t : eqb a k ≡ true = ap (λ (y : ℕ). eqb y k) e ∙ eqb-self k in
        rw (z, t, e) (get_or-set_same m k (suc b) 0 h)

    other : a ≢ k → or_else (mate_in gs k) (get_or (set m a (suc b)) k 0) ≡ or_else (cond (eqb a k) (suc b) (mate_in gs k)) (get_or m k 0)
    other e = rw (eqb-false a k e) (ap (or_else (mate_in gs k)) (get_or-set_other m a k (suc b) 0 (λ y. e (sym y))))

-- over zeros the mates come out as they are defined
or_zero : (m d : ℕ) → d ≡ 0 → or_else m d ≡ m
or_zero zero d h = h
or_zero (suc m) d h = refl

pub marks-at : (gs : List (List ℕ)) (m : List ℕ) (k : ℕ) → k < length m → Apart (joined gs) → get_or m k 0 ≡ 0 → get_or (marks gs m) k 0 ≡ mate_in gs k
marks-at gs m k h A z = marks-get gs m k h A ∙ or_zero (mate_in gs k) (get_or m k 0) z

-- the groups of a mesh
module _ (is : List ℕ) where
  pub edges_joined : joined (edges_of is) ≡ sides_of is
  unfolding edges_of
  edges_joined = join-groups (pair_of is) (sides_of is)

  pub edges_apart : Apart (joined (edges_of is))
  edges_apart = rw edges_joined (apart-sorted (pair_of is) (sides_of is) (sides_sorted is))

  edges_even : Evens (pair_of is) (edges_of is)
  unfolding edges_of
  edges_even = even_groups (pair_of is) (sides_of is)

  module _ (done rest : List (List ℕ)) (a b : ℕ) (e : edges_of is ≡ done ++ ((a ∷ b ∷ []) ∷ rest)) where
    parts : sides_of is ≡ joined done ++ (a ∷ b ∷ joined rest)
    parts = sym edges_joined ∙ ap joined e ∙ joined-append done ((a ∷ b ∷ []) ∷ rest)

    -- of two sides of one pair the first comes first
    pub two-rising : a < b
    two-rising =
        let E : Evens (pair_of is) ((a ∷ b ∷ []) ∷ rest) = evens_after (pair_of is) done ((a ∷ b ∷ []) ∷ rest) (rw e at edges_even) in
        let S : Sorted (pair_of is) (a ∷ b ∷ joined rest) = sorted_after (pair_of is) (joined done) (a ∷ b ∷ joined rest) (rw parts at (sides_sorted is)) in
        ⊎_elim (λ h. absurd (omega (arith, E.0.0))) (λ h. h.1) (S.0 b (inl refl))

    pub two-mate : mate_in (edges_of is) a ≡ suc b
    two-mate =
        let A : Apart (joined done ++ (a ∷ b ∷ joined rest)) = rw (edges_joined, parts) at edges_apart in
        ap (λ (gs : List (List ℕ)). mate_in gs a) e ∙ mate_skip done ((a ∷ b ∷ []) ∷ rest) a (apart-both (joined done) (a ∷ b ∷ joined rest) a A (inl refl)) ∙ mate_here rest a b

    -- the flag of an edge of two sides
    pub flag-two : (flips : List ℕ) → flag_of is flips a ≡ cond (flipped (min (face_of a) (face_of b)) (max (face_of a) (face_of b)) flips) 1 0
    unfolding flag_of
    flag-two flips =
        let p : min (a / 3) (b / 3) ≡ a / 3 = omega (arith, two-rising) in
        let q : max (a / 3) (b / 3) ≡ b / 3 = omega (arith, two-rising) in
        ap (flag_by flips a) two-mate ∙ sym (rw (p, q))
