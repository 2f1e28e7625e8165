-- Counting: bags of pairs and of ends, and the parity of a vertex.
use mathlib.Core.Path.{◌≡◌, refl, sym, ap, ◌∙◌}
use mathlib.Core.Bool.{Bool, true, false, ◌&&◌, ◌||◌, not, cond}
use mathlib.Core.Logic.{◌⊎◌, inl, inr, ◌≢◌}
use mathlib.Core.List.{List, [], ◌∷◌, ◌++◌}
use Prim.Native.Nat.{ℕ, ◌+◌, ◌*◌, ◌%◌, ◌≤◌}
use native.Mathlib.Omega.{arith}
use native.Mathlib.Decide.{ℕ_discrete}
use Rattle.path_splice_rule.specs.Splice.{last_of}
use Rattle.path_splice_rule.specs.Demand.{Law, sum, over_pairs, one, is_pair, drawn, degree, open_one, ends_one, open_count, ends_open}
use Rattle.order.proofs.Tests.{both_left, both_right}
use Rattle.path_splice_rule.proofs.Totals.{sum-append}

-- one element of a list, taken off: whatever does not tell it from x counts it as x
pub record Rest {B : Type 0} (near : B → ℕ) (x : B) (m : List B) : Type 0 where
  pub rest : List B
  pub takes : (h : B → ℕ) → ((z : B) → near z ≢ 0 → h z ≡ h x) → sum h m ≡ h x + sum h rest

pub extract : {B : Type 0} (near : B → ℕ) (x : B) (m : List B) → sum near m ≢ 0 → Rest near x m
unfolding sum
extract near x [] n = absurd (n refl)
extract {B} near x (z ∷ m) n = elim (ℕ_discrete (near z) 0) [ yes q ↦ later q (λ k. extract near x m k) | no q ↦ record { rest = m; takes = λ h c. omega (arith, c z q) } ]
  where
    later : near z ≡ 0 → (sum near m ≢ 0 → Rest near x m) → Rest near x (z ∷ m)
    later q rec =
        let R = rec (λ k. n (omega arith)) in
        record { rest = z ∷ R.rest; takes = λ h c. omega (arith, R.takes h c) }

module _ {A : Type 0} where
  pairs : List A → List (A × A)
  pairs [] = []
  pairs (x ∷ []) = []
  pairs (x ∷ y ∷ s) = (x, y) ∷ pairs (y ∷ s)

  on : (A → A → ℕ) → A × A → ℕ
  on g p = g p.0 p.1

  along-pairs : (g : A → A → ℕ) (s : List A) → over_pairs g s ≡ sum (on g) (pairs s)
  unfolding over_pairs sum pairs on
  along-pairs g [] = refl
  along-pairs g (x ∷ []) = refl
  along-pairs g (x ∷ y ∷ s) = omega (arith, along-pairs g (y ∷ s))

  all_pairs : List (List A) → List (A × A)
  all_pairs [] = []
  all_pairs (s ∷ ss) = pairs s ++ all_pairs ss

  all_pairs_lem : (g : A → A → ℕ) (ss : List (List A)) → sum (over_pairs g) ss ≡ sum (on g) (all_pairs ss)
  unfolding sum all_pairs
  all_pairs_lem g [] = refl
  all_pairs_lem g (s ∷ ss) = omega (arith, all_pairs_lem g ss, along-pairs g s, sum-append (on g) (pairs s) (all_pairs ss))

or_comm : (a b : Bool) → a || b ≡ b || a
or_comm true true = refl
or_comm true false = refl
or_comm false true = refl
or_comm false false = refl

or_cases : (a b : Bool) → one (a || b) ≢ 0 → (a ≡ true) ⊎ (b ≡ true)
or_cases true b h = inl refl
or_cases false true h = inr refl
or_cases false false h = absurd (h refl)

pub one-true : (b : Bool) → one b ≢ 0 → b ≡ true
one-true true h = refl
one-true false h = absurd (h refl)

module _ {A : Type 0} (same : A → A → Bool) (law : Law same) where
  pub pair_turn : (a b x y : A) → is_pair same a b x y ≡ is_pair same a b y x
  unfolding is_pair
  pair_turn a b x y = ap one (or_comm (same a x && same b y) (same a y && same b x))

  pub pair_self : (a b : A) → is_pair same a b a b ≡ 1
  unfolding is_pair
  pair_self a b = rw (law.self a, law.self b)

  pub pair_near : (g : A → A → ℕ) → ((x y : A) → g x y ≡ g y x) → (a b x y : A) → is_pair same a b x y ≢ 0 → g x y ≡ g a b
  unfolding is_pair
  pair_near g c a b x y h = go (or_cases (same a x && same b y) (same a y && same b x) h)
    where
      go : (same a x && same b y ≡ true) ⊎ (same a y && same b x ≡ true) → g x y ≡ g a b
      go (inl p) =
          let ax : a ≡ x = law.eq a x (both_left (same a x) (same b y) p) in
          let byy : b ≡ y = law.eq b y (both_right (same a x) (same b y) p) in
          rw (ax, byy)
      go (inr p) =
          let ay : a ≡ y = law.eq a y (both_left (same a y) (same b x) p) in
          let bx : b ≡ x = law.eq b x (both_right (same a y) (same b x) p) in
          rw (ay, bx) (c x y)

  -- two lists of pairs with the same bag weigh the same
  bag : (P Q : List (A × A)) → ((a b : A) → sum (on (is_pair same a b)) P ≡ sum (on (is_pair same a b)) Q)
      → (g : A → A → ℕ) → ((x y : A) → g x y ≡ g y x) → sum (on g) P ≡ sum (on g) Q
  unfolding sum on
  bag [] [] h g c = refl
  bag [] (q ∷ Q) h g c = absurd (omega (arith, h q.0 q.1, pair_self q.0 q.1))
  bag (p ∷ P) Q h g c =
      let a = p.0 in
      let b = p.1 in
      let R = extract (on (is_pair same a b)) p Q (λ z. omega (arith, h a b, pair_self a b)) in
      let each_of : (k : A → A → ℕ) → ((x y : A) → k x y ≡ k y x) → sum (on k) Q ≡ k a b + sum (on k) R.rest = λ k s. R.takes (on k) (λ z n. pair_near k s a b z.0 z.1 n) in
      let r = bag P R.rest (λ x y. omega (arith, h x y, each_of (is_pair same x y) (pair_turn x y))) g c in
      omega (arith, each_of g c)

  pub bags : (S T : List (List A)) → ((a b : A) → drawn same a b S ≡ drawn same a b T) → (g : A → A → ℕ) → ((x y : A) → g x y ≡ g y x) → sum (over_pairs g) S ≡ sum (over_pairs g) T
  unfolding drawn
  bags S T h g c =
      all_pairs_lem g S
      ∙ bag (all_pairs S) (all_pairs T) (λ a b. sym (all_pairs_lem (is_pair same a b) S) ∙ h a b ∙ all_pairs_lem (is_pair same a b) T) g c
      ∙ sym (all_pairs_lem g T)

  -- parity
  meet : A → A → A → ℕ
  meet v x y = one (same v x) + one (same v y)

  twice : (v x : A) (s : List A) → over_pairs (meet v) (x ∷ s) + one (same v x) + one (same v (last_of x s)) ≡ 2 * sum (λ z. one (same v z)) (x ∷ s)
  unfolding over_pairs sum last_of meet
  twice v x [] = omega arith
  twice v x (y ∷ s) = omega (arith, twice v y s)

  even_one : (v : A) (s : List A) → (over_pairs (meet v) s + ends_one same v s) % 2 ≡ 0
  unfolding over_pairs ends_one
  even_one v [] = refl
  even_one v (x ∷ s) = go (same x (last_of x s)) refl
    where
      go : (b : Bool) → same x (last_of x s) ≡ b → (over_pairs (meet v) (x ∷ s) + cond b 0 (one (same v x) + one (same v (last_of x s)))) % 2 ≡ 0
      go true q = let z : one (same v x) ≡ one (same v (last_of x s)) = ap (λ y. one (same v y)) (law.eq x (last_of x s) q) in omega (arith, twice v x s)
      go false q = omega (arith, twice v x s)

  pub even : (v : A) (T : List (List A)) → (degree same v T + ends_open same v T) % 2 ≡ 0
  unfolding degree ends_open sum meet
  even v [] = refl
  even v (s ∷ T) = omega (arith, even v T, even_one v s)

  -- the ends of the open strokes, as a list
  ends_list1 : List A → List A
  ends_list1 [] = []
  ends_list1 (x ∷ s) = cond (same x (last_of x s)) [] (x ∷ last_of x s ∷ [])

  ends_list : List (List A) → List A
  ends_list [] = []
  ends_list (s ∷ T) = ends_list1 s ++ ends_list T

  ends_count1 : (v : A) (s : List A) → sum (λ z. one (same v z)) (ends_list1 s) ≡ ends_one same v s
  unfolding sum ends_list1 ends_one
  ends_count1 v [] = refl
  ends_count1 v (x ∷ s) = go (same x (last_of x s))
    where
      go : (b : Bool) → sum (λ z. one (same v z)) (cond b [] (x ∷ last_of x s ∷ [])) ≡ cond b 0 (one (same v x) + one (same v (last_of x s)))
      go true = refl
      go false = omega arith

  ends_length1 : (s : List A) → sum (λ z. 1) (ends_list1 s) ≡ 2 * open_one same s
  unfolding sum ends_list1 open_one
  ends_length1 [] = refl
  ends_length1 (x ∷ s) = go (same x (last_of x s))
    where
      go : (b : Bool) → sum (λ z. 1) (cond b [] (x ∷ last_of x s ∷ [])) ≡ 2 * one (not b)
      go true = refl
      go false = refl

  ends_count : (v : A) (T : List (List A)) → sum (λ z. one (same v z)) (ends_list T) ≡ ends_open same v T
  unfolding sum ends_list ends_open
  ends_count v [] = refl
  ends_count v (s ∷ T) = omega (arith, ends_count v T, ends_count1 v s, sum-append (λ z. one (same v z)) (ends_list1 s) (ends_list T))

  ends_length : (T : List (List A)) → sum (λ z. 1) (ends_list T) ≡ 2 * open_count same T
  unfolding sum ends_list open_count
  ends_length [] = refl
  ends_length (s ∷ T) = omega (arith, ends_length T, ends_length1 s, sum-append (λ z. 1) (ends_list1 s) (ends_list T))

  fewer : (l m : List A) → ((v : A) → sum (λ z. one (same v z)) l ≤ sum (λ z. one (same v z)) m) → sum (λ z. 1) l ≤ sum (λ z. 1) m
  unfolding sum
  fewer [] m h = omega arith
  fewer (x ∷ l) m h =
      let self : one (same x x) ≡ 1 = rw (law.self x) in
      let R = extract (λ z. one (same x z)) x m (λ k. omega (arith, h x)) in
      let each_of : (k : A → ℕ) → sum k m ≡ k x + sum k R.rest = λ k. R.takes k (λ z n. ap k (sym (law.eq x z (one-true (same x z) n)))) in
      let r = fewer l R.rest (λ v. omega (arith, h v, each_of (λ z. one (same v z)))) in
      omega (arith, each_of (λ z. 1))

  -- strokes with fewer ends of open strokes at every vertex have fewer open strokes
  pub fewer_open : (S T : List (List A)) → ((v : A) → ends_open same v S ≤ ends_open same v T) → open_count same S ≤ open_count same T
  fewer_open S T h =
      omega (arith, ends_length S, ends_length T, fewer (ends_list S) (ends_list T) (λ v. omega (arith, h v, ends_count v S, ends_count v T)))
