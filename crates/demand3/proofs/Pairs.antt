-- The list of kept edges names each kept pair once, and no other pair.
-- The sides between a and b have one key, so the sort keeps them together and in their order: they are one group of the sorted list, and what is
-- drawn of the pair is what the mode says of that group. All other groups draw other pairs.
use mathlib.Core.Path.{◌≡◌, refl, sym, ap, ◌∙◌, subst}
use mathlib.Core.Bool.{Bool, true, false, ◌&&◌, ◌||◌}
use mathlib.Core.Logic.{◌⊎◌, inl, inr, ◌≢◌}
use mathlib.Core.List.{List, [], ◌∷◌, ◌++◌, map, append-nil}
use Prim.Native.Nat.{ℕ, zero, suc, ◌+◌, ◌*◌, ◌<◌, ◌≤◌, min, max}
use native.Mathlib.Omega.{arith}
use native.Mathlib.Nat.{min-le_left, le-max_left, le_trans, min-eq_left, min_comm, max_comm, max-eq_right}
use lib.Dec.{eqb}
use lib.ListN.{length, get_or, take, drop, length-drop, take-append-drop}
use Rattle.order.specs.Order.{insert, order}
use Rattle.order.proofs.Tests.{truth, clash, eqb-true, eqb-self, both_left, both_right, le-or}
use Rattle.order.proofs.Sorted.{In, Before, Sorted, single, insert-front, insert-later}
use Rattle.path_splice_rule.specs.Demand.{sum, over_pairs, one, is_pair, drawn}
use Rattle.path_splice_rule.proofs.Bags.{pair_turn}
use Rattle.path_splice_rule.proofs.Numbers.{numbers}
use Rattle.mesh_edges.specs.Edges.{face_of, next_corner, low_of, high_of, pair_of, up_from, sides_of, groups_of, edges_of}
use Rattle.mesh_edges.specs.InnerWords.{alike}
use Rattle.mesh_edges.proofs.Groups.{alike-yes, alike-no, edge_first}
use Rattle.mesh_edges.proofs.Ups.{sides_sorted}
use Rattle.mesh_strokes.specs.Draw.{strokes_by}
use Rattle.mesh_strokes.proofs.Walks.{stroke_kept, stroke_left}
use Rattle.demand3.specs.Demand3.{between, those, faces_with, keeps_some}

-- ---- those of a list that pass a test
module _ (q : ℕ → Bool) where
  those-none : those q [] ≡ []
  unfolding those
  those-none = refl

  those-yes : (x : ℕ) (xs : List ℕ) → q x ≡ true → those q (x ∷ xs) ≡ x ∷ those q xs
  unfolding those
  those-yes x xs h = rw h

  those-no : (x : ℕ) (xs : List ℕ) → q x ≡ false → those q (x ∷ xs) ≡ those q xs
  unfolding those
  those-no x xs h = rw h

  those-all : (s : List ℕ) → ((y : ℕ) → In y s → q y ≡ true) → those q s ≡ s
  those-all [] h = those-none
  those-all (x ∷ s) h = those-yes x s (h x (inl refl)) ∙ ap (λ (l : List ℕ). x ∷ l) (those-all s (λ y i. h y (inr i)))

  those-nothing : (s : List ℕ) → ((y : ℕ) → In y s → q y ≡ false) → those q s ≡ []
  those-nothing [] h = those-none
  those-nothing (x ∷ s) h = those-no x s (h x (inl refl)) ∙ those-nothing s (λ y i. h y (inr i))

  those-append : (s t : List ℕ) → those q (s ++ t) ≡ those q s ++ those q t
  those-append [] t = ap (λ (l : List ℕ). l ++ those q t) (sym those-none)
  those-append (x ∷ s) t = go (truth (q x)) (those-append s t)
    where
      go : (q x ≡ true) ⊎ (q x ≡ false) → those q (s ++ t) ≡ those q s ++ those q t → those q (x ∷ s ++ t) ≡ those q (x ∷ s) ++ those q t
      go (inl h) r = those-yes x (s ++ t) h ∙ ap (λ (l : List ℕ). x ∷ l) r ∙ ap (λ (l : List ℕ). l ++ those q t) (sym (those-yes x s h))
      go (inr h) r = those-no x (s ++ t) h ∙ r ∙ ap (λ (l : List ℕ). l ++ those q t) (sym (those-no x s h))

  -- a sort leaves those of one key in the order in which they came
  module _ (key : ℕ → ℕ) (alone : (x y : ℕ) → q x ≡ true → q y ≡ true → key x ≡ key y) where
    those-insert : (x : ℕ) (s : List ℕ) → those q (insert key x s) ≡ those q (x ∷ s)
    those-insert x [] = ap (those q) (single key x)
    those-insert x (y ∷ s) = go (le-or (key x) (key y)) (truth (q x)) (truth (q y)) (those-insert x s)
      where
        later : key y < key x → (q y ≡ true) ⊎ (q y ≡ false) → (q x ≡ true) ⊎ (q x ≡ false) → those q (insert key x s) ≡ those q (x ∷ s) → those q (y ∷ insert key x s) ≡ those q (x ∷ y ∷ s)
        later l (inl b) (inl a) r = absurd (omega (arith, alone x y a b))
        later l (inl b) (inr a) r =
            those-yes y (insert key x s) b ∙ ap (λ (z : List ℕ). y ∷ z) (r ∙ those-no x s a) ∙ sym (those-yes y s b) ∙ sym (those-no x (y ∷ s) a)
        later l (inr b) (inl a) r = those-no y (insert key x s) b ∙ r ∙ those-yes x s a ∙ ap (λ (z : List ℕ). x ∷ z) (sym (those-no y s b)) ∙ sym (those-yes x (y ∷ s) a)
        later l (inr b) (inr a) r = those-no y (insert key x s) b ∙ r ∙ those-no x s a ∙ sym (those-no y s b) ∙ sym (those-no x (y ∷ s) a)

        go : (key x ≤ key y) ⊎ (key y < key x) → (q x ≡ true) ⊎ (q x ≡ false) → (q y ≡ true) ⊎ (q y ≡ false) → those q (insert key x s) ≡ those q (x ∷ s) → those q (insert key x (y ∷ s)) ≡ those q (x ∷ y ∷ s)
        go (inl l) a b r = ap (those q) (insert-front key x y s l)
        go (inr l) a b r = ap (those q) (insert-later key x y s l) ∙ later l b a r

    those-front : (x : ℕ) (s t : List ℕ) → those q s ≡ those q t → those q (x ∷ s) ≡ those q (x ∷ t)
    those-front x s t e = go (truth (q x))
      where
        go : (q x ≡ true) ⊎ (q x ≡ false) → those q (x ∷ s) ≡ those q (x ∷ t)
        go (inl h) = those-yes x s h ∙ ap (λ (z : List ℕ). x ∷ z) e ∙ sym (those-yes x t h)
        go (inr h) = those-no x s h ∙ e ∙ sym (those-no x t h)

    pub those-order : (s : List ℕ) → those q (order key s) ≡ those q s
    unfolding order
    those-order [] = refl
    those-order (x ∷ s) = those-insert x (order key s) ∙ those-front x (order key s) s (those-order s)

-- ---- groups of a sorted list
module _ (key : ℕ → ℕ) where
  -- the front that is alike has the key of x
  in_front : (x : ℕ) (xs : List ℕ) (y : ℕ) → In y (take (alike key x xs) xs) → key y ≡ key x
  in_front x [] y i = absurd (nothing (alike key x []) i)
    where
      nothing : (n : ℕ) → In y (take n []) → ⊥
      nothing zero i = i
      nothing (suc n) i = i
  in_front x (z ∷ zs) y i = go (truth (eqb (key x) (key z))) (in_front x zs y)
    where
      here : eqb (key x) (key z) ≡ true → (In y (take (alike key x zs) zs) → key y ≡ key x) → (y ≡ z) ⊎ In y (take (alike key x zs) zs) → key y ≡ key x
      here h r (inl e) = ap key e ∙ sym (eqb-true (key x) (key z) h)
      here h r (inr j) = r j

      go : (eqb (key x) (key z) ≡ true) ⊎ (eqb (key x) (key z) ≡ false) → (In y (take (alike key x zs) zs) → key y ≡ key x) → key y ≡ key x
      go (inl h) r = here h r (subst (λ (n : ℕ). In y (take n (z ∷ zs))) (alike-yes key x z zs h) i)
      go (inr h) r = absurd (subst (λ (n : ℕ). In y (take n (z ∷ zs))) (alike-no key x z zs h) i)

  -- what follows the front has a higher key
  in_rest : (x : ℕ) (xs : List ℕ) → Sorted key (x ∷ xs) → (y : ℕ) → In y (drop (alike key x xs) xs) → key x < key y
  in_rest x [] S y i = absurd (nothing (alike key x []) i)
    where
      nothing : (n : ℕ) → In y (drop n []) → ⊥
      nothing zero i = i
      nothing (suc n) i = i
  in_rest x (z ∷ zs) S y i = go (truth (eqb (key x) (key z))) (in_rest x zs ((λ w j. S.0 w (inr j)), S.1.1) y)
    where
      step : Before key z y → key z ≤ key y
      step (inl a) = omega arith
      step (inr a) = omega (arith, a.0)

      first : eqb (key x) (key z) ≡ false → Before key x z → key x < key z
      first h (inl a) = a
      first h (inr a) = absurd (clash (rw a.0 (eqb-self (key z))) h)

      rest : key x < key z → (y ≡ z) ⊎ In y zs → key x < key y
      rest l (inl e) = omega (arith, ap key e)
      rest l (inr j) = omega (arith, step (S.1.0 y j))

      go : (eqb (key x) (key z) ≡ true) ⊎ (eqb (key x) (key z) ≡ false) → (In y (drop (alike key x zs) zs) → key x < key y) → key x < key y
      go (inl h) r = r (rw (alike-yes key x z zs h) at i)
      go (inr h) r = rest (first h (S.0 z (inl refl))) (rw (alike-no key x z zs h) at i)

  sorted-drop : (n : ℕ) (s : List ℕ) → Sorted key s → Sorted key (drop n s)
  sorted-drop zero s S = S
  sorted-drop (suc n) [] S = tt
  sorted-drop (suc n) (x ∷ s) S = sorted-drop n s S.1

-- ---- a side between a and b, and the pair that it draws
one-true : (p : Bool) → one p ≡ 1 → p ≡ true
one-true true h = refl
one-true false h = absurd (omega arith)

module _ (is : List ℕ) (a b : ℕ) where
  abbrev hits : ℕ → ℕ
  hits x = is_pair eqb a b (low_of is x) (high_of is x)

  hits_between : (x : ℕ) → hits x ≡ one (between is a b x)
  unfolding is_pair between
  hits_between x = go (get_or is x 0) (get_or is (next_corner x) 0) (le-or (get_or is x 0) (get_or is (next_corner x) 0))
    where
      go : (u v : ℕ) → (u ≤ v) ⊎ (v < u) → is_pair eqb a b (min u v) (max u v) ≡ is_pair eqb a b u v
      go u v (inl l) = rw (min-eq_left l, max-eq_right l)
      go u v (inr l) =
          let m : v ≤ u = omega arith in
          rw (min_comm u v, max_comm u v, min-eq_left m, max-eq_right m) (pair_turn eqb numbers a b v u)

  hits_one : (x : ℕ) → between is a b x ≡ true → hits x ≡ 1
  hits_one x h = hits_between x ∙ ap one h

  hits_none : (x : ℕ) → between is a b x ≡ false → hits x ≡ 0
  hits_none x h = hits_between x ∙ ap one h

  hits_back : (x : ℕ) → hits x ≡ 1 → between is a b x ≡ true
  hits_back x h = one-true (between is a b x) (sym (hits_between x) ∙ h)

-- two sides that draw one pair have the same ends
either : (p q : Bool) → one (p || q) ≢ 0 → (p ≡ true) ⊎ (q ≡ true)
either true q h = inl refl
either false true h = inr refl
either false false h = absurd (h refl)

ends_of_lem : (a b l h : ℕ) → is_pair eqb a b l h ≢ 0 → ((a ≡ l) × (b ≡ h)) ⊎ ((a ≡ h) × (b ≡ l))
unfolding is_pair
ends_of_lem a b l h p = go (either (eqb a l && eqb b h) (eqb a h && eqb b l) p)
  where
    go : ((eqb a l && eqb b h) ≡ true) ⊎ ((eqb a h && eqb b l) ≡ true) → ((a ≡ l) × (b ≡ h)) ⊎ ((a ≡ h) × (b ≡ l))
    go (inl e) = inl (eqb-true a l (both_left (eqb a l) (eqb b h) e), eqb-true b h (both_right (eqb a l) (eqb b h) e))
    go (inr e) = inr (eqb-true a h (both_left (eqb a h) (eqb b l) e), eqb-true b l (both_right (eqb a h) (eqb b l) e))

same_ends : (a b l h m n : ℕ) → l ≤ h → m ≤ n → is_pair eqb a b l h ≢ 0 → is_pair eqb a b m n ≢ 0 → (l ≡ m) × (h ≡ n)
same_ends a b l h m n lh mn p q = go (ends_of_lem a b l h p) (ends_of_lem a b m n q)
  where
    go : ((a ≡ l) × (b ≡ h)) ⊎ ((a ≡ h) × (b ≡ l)) → ((a ≡ m) × (b ≡ n)) ⊎ ((a ≡ n) × (b ≡ m)) → (l ≡ m) × (h ≡ n)
    go (inl e) (inl f) = (omega (arith, e.0, e.1, f.0, f.1), omega (arith, e.0, e.1, f.0, f.1))
    go (inl e) (inr f) = (omega (arith, e.0, e.1, f.0, f.1), omega (arith, e.0, e.1, f.0, f.1))
    go (inr e) (inl f) = (omega (arith, e.0, e.1, f.0, f.1), omega (arith, e.0, e.1, f.0, f.1))
    go (inr e) (inr f) = (omega (arith, e.0, e.1, f.0, f.1), omega (arith, e.0, e.1, f.0, f.1))

low_high : (is : List ℕ) (k : ℕ) → low_of is k ≤ high_of is k
low_high is k = le_trans (min-le_left (get_or is k 0) (get_or is (next_corner k) 0)) (le-max_left (get_or is k 0) (get_or is (next_corner k) 0))

-- sides between a and b have one key
one_key : (is : List ℕ) (a b x y : ℕ) → between is a b x ≡ true → between is a b y ≡ true → pair_of is x ≡ pair_of is y
one_key is a b x y p q =
    let u = hits_one is a b x p in
    let v = hits_one is a b y q in
    let e = same_ends a b (low_of is x) (high_of is x) (low_of is y) (high_of is y) (low_high is x) (low_high is y) (λ z. omega (arith, z)) (λ z. omega (arith, z)) in
    omega (arith, e.0, e.1)

-- and a side with that key is between a and b, where vertex numbers are words
one-pair : (l h m n : ℕ) → h < 4294967296 → n < 4294967296 → l * 4294967296 + h ≡ m * 4294967296 + n → (l ≡ m) × (h ≡ n)
one-pair l h m n p q e = (omega arith, omega arith)

max_less : (u v n : ℕ) → u < n → v < n → max u v < n
max_less u v n p q = go (le-or u v)
  where
    go : (u ≤ v) ⊎ (v < u) → max u v < n
    go (inl l) = rw (max-eq_right l) q
    go (inr l) = let m : v ≤ u = omega arith in rw (max_comm u v, max-eq_right m) p

module _ (is : List ℕ) (words : (k : ℕ) → get_or is k 0 < 4294967296) (a b : ℕ) where
  high_word : (x : ℕ) → high_of is x < 4294967296
  high_word x = max_less (get_or is x 0) (get_or is (next_corner x) 0) 4294967296 (words x) (words (next_corner x))

  key-between : (x y : ℕ) → pair_of is y ≡ pair_of is x → between is a b y ≡ true → between is a b x ≡ true
  key-between x y e h =
      let p = one-pair (low_of is y) (high_of is y) (low_of is x) (high_of is x) (high_word y) (high_word x) e in
      hits_back is a b x (rw (sym p.0, sym p.1) (hits_one is a b y h))

-- ---- how often the pair a b is drawn by the kept edges of a sorted list of sides
module _ (keep : List ℕ → Bool) (is : List ℕ) (words : (k : ℕ) → get_or is k 0 < 4294967296) (a b : ℕ) where
  abbrev count : List ℕ → ℕ
  count s = drawn eqb a b (strokes_by keep is (groups_of (pair_of is) s))

  abbrev said : List ℕ → ℕ
  said s = one (keeps_some keep (map face_of (those (between is a b) s)))

  count_none : count [] ≡ 0
  unfolding drawn sum strokes_by groups_of
  count_none = refl

  two : (l h : ℕ) (ss : List (List ℕ)) → drawn eqb a b ((l ∷ h ∷ []) ∷ ss) ≡ is_pair eqb a b l h + drawn eqb a b ss
  unfolding drawn sum over_pairs
  two l h ss = omega arith

  module _ (x : ℕ) (xs : List ℕ) where
    abbrev group : List ℕ
    group = x ∷ take (alike (pair_of is) x xs) xs

    abbrev rest : List ℕ
    rest = drop (alike (pair_of is) x xs) xs

    first : count (x ∷ xs) ≡ drawn eqb a b (strokes_by keep is (group ∷ groups_of (pair_of is) rest))
    first = ap (λ (gs : List (List ℕ)). drawn eqb a b (strokes_by keep is gs)) (edge_first (pair_of is) x xs)

    count_kept : keep (map face_of group) ≡ true → count (x ∷ xs) ≡ hits is a b x + count rest
    count_kept h =
        first ∙ ap (drawn eqb a b) (stroke_kept keep is x (take (alike (pair_of is) x xs) xs) (groups_of (pair_of is) rest) h)
        ∙ two (low_of is x) (high_of is x) (strokes_by keep is (groups_of (pair_of is) rest))

    count_left : keep (map face_of group) ≡ false → count (x ∷ xs) ≡ count rest
    count_left h = first ∙ ap (drawn eqb a b) (stroke_left keep is x (take (alike (pair_of is) x xs) xs) (groups_of (pair_of is) rest) h)

    -- the sides between a and b of the whole are those of the group and those of the rest
    parts : those (between is a b) xs ≡ those (between is a b) (take (alike (pair_of is) x xs) xs) ++ those (between is a b) rest
    parts =
        ap (those (between is a b)) (sym (take-append-drop (alike (pair_of is) x xs) xs)) ∙ those-append (between is a b) (take (alike (pair_of is) x xs) xs) rest

    module _ (S : Sorted (pair_of is) (x ∷ xs)) where
      -- where x is between a and b, so is its group, and nothing of the rest
      nothing-of-rest : between is a b x ≡ true → those (between is a b) rest ≡ []
      nothing-of-rest h = those-nothing (between is a b) rest (λ y i. go y i (truth (between is a b y)))
        where
          go : (y : ℕ) → In y (drop (alike (pair_of is) x xs) xs) → (between is a b y ≡ true) ⊎ (between is a b y ≡ false) → between is a b y ≡ false
          go y i (inl q) = absurd (omega (arith, one_key is a b x y h q, in_rest (pair_of is) x xs S y i))
          go y i (inr q) = q

      group-is : between is a b x ≡ true → those (between is a b) (x ∷ xs) ≡ group
      group-is h =
          let front = take (alike (pair_of is) x xs) xs in
          let g = those-all (between is a b) front (λ y i. key-between is words a b y x (sym (in_front (pair_of is) x xs y i)) h) in
          let r = ap (λ (l : List ℕ). l ++ those (between is a b) rest) g ∙ ap (λ (l : List ℕ). front ++ l) (nothing-of-rest h) ∙ append-nil front in
          those-yes (between is a b) x xs h ∙ ap (λ (l : List ℕ). x ∷ l) (parts ∙ r)

    -- where x is not, nothing of its group is
    rest-is : between is a b x ≡ false → those (between is a b) (x ∷ xs) ≡ those (between is a b) rest
    rest-is h =
        let g = those-nothing (between is a b) (take (alike (pair_of is) x xs) xs) (λ y i. go y i (truth (between is a b y))) in
        those-no (between is a b) x xs h ∙ parts ∙ ap (λ (l : List ℕ). l ++ those (between is a b) rest) g
      where
        go : (y : ℕ) → In y (take (alike (pair_of is) x xs) xs) → (between is a b y ≡ true) ⊎ (between is a b y ≡ false) → between is a b y ≡ false
        go y i (inl q) = absurd (clash (key-between is words a b x y (in_front (pair_of is) x xs y i) q) h)
        go y i (inr q) = q

  said-none : said [] ≡ 0
  unfolding those keeps_some
  said-none = refl

  said_of : (l m : List ℕ) → those (between is a b) l ≡ those (between is a b) m → said l ≡ said m
  said_of l m e = ap (λ (r : List ℕ). one (keeps_some keep (map face_of r))) e

  said-group : (x : ℕ) (xs l : List ℕ) → those (between is a b) l ≡ x ∷ xs → said l ≡ one (keep (map face_of (x ∷ xs)))
  unfolding keeps_some
  said-group x xs l e = ap (λ (r : List ℕ). one (keeps_some keep (map face_of r))) e

  count-said : (n : ℕ) (s : List ℕ) → length s ≤ n → Sorted (pair_of is) s → count s ≡ said s
  count-said zero [] l S = count_none ∙ sym said-none
  count-said zero (x ∷ xs) l S = absurd (omega arith)
  count-said (suc n) [] l S = count_none ∙ sym said-none
  count-said (suc n) (x ∷ xs) l S =
      go (truth (between is a b x)) (truth (keep (map face_of (group x xs)))) (count-said n (rest x xs) (omega (arith, length-drop (alike (pair_of is) x xs) xs)) (sorted-drop (pair_of is) (alike (pair_of is) x xs) xs S.1))
    where
      go : (between is a b x ≡ true) ⊎ (between is a b x ≡ false) → (keep (map face_of (group x xs)) ≡ true) ⊎ (keep (map face_of (group x xs)) ≡ false) → count (rest x xs) ≡ said (rest x xs) → count (x ∷ xs) ≡ said (x ∷ xs)
      go (inl h) (inl k) r =
          let z = r ∙ said_of (rest x xs) [] (nothing-of-rest x xs S h ∙ sym (those-none (between is a b))) ∙ said-none in
          omega (arith, count_kept x xs k, hits_one is a b x h, said-group x (take (alike (pair_of is) x xs) xs) (x ∷ xs) (group-is x xs S h), ap one k)
      go (inl h) (inr k) r =
          let z = r ∙ said_of (rest x xs) [] (nothing-of-rest x xs S h ∙ sym (those-none (between is a b))) ∙ said-none in
          omega (arith, count_left x xs k, said-group x (take (alike (pair_of is) x xs) xs) (x ∷ xs) (group-is x xs S h), ap one k)
      go (inr h) (inl k) r = omega (arith, count_kept x xs k, hits_none is a b x h, said_of (x ∷ xs) (rest x xs) (rest-is x xs h))
      go (inr h) (inr k) r = omega (arith, count_left x xs k, said_of (x ∷ xs) (rest x xs) (rest-is x xs h))

  pub once : drawn eqb a b (strokes_by keep is (edges_of is)) ≡ one (keeps_some keep (faces_with is a b))
  unfolding edges_of sides_of faces_with
  once =
      count-said (length (sides_of is)) (sides_of is) (omega arith) (sides_sorted is)
      ∙ said_of (order (pair_of is) (up_from 0 (length is))) (up_from 0 (length is)) (those-order (between is a b) (pair_of is) (one_key is a b) (up_from 0 (length is)))
