-- Where every pair of ends occurs an even number of times, in either direction, any weight of pairs without direction sums to an even number.
use mathlib.Core.Path.{◌≡◌, refl}
use mathlib.Core.Bool.{Bool}
use mathlib.Core.List.{List, [], ◌∷◌}
use Prim.Native.Nat.{ℕ, zero, suc, ◌+◌, ◌%◌, ◌≤◌}
use native.Mathlib.Omega.{arith}
use Rattle.path_splice_rule.specs.Demand.{Law, sum, is_pair}
use Rattle.path_splice_rule.proofs.Bags.{extract, pair_turn, pair_self, pair_near}

-- each element k of a list has two ends, s k and t k
module _ {A B : Type 0} (same : A → A → Bool) (law : Law same) (s t : B → A) where
  -- the first element is taken off together with one of the same ends, which there is, their number being even; m falls by two
  evens : (m : ℕ) (ks : List B) → sum (λ k. 1) ks ≤ m → ((a b : A) → sum (λ k. is_pair same a b (s k) (t k)) ks % 2 ≡ 0)
      → (g : A → A → ℕ) → ((x y : A) → g x y ≡ g y x) → sum (λ k. g (s k) (t k)) ks % 2 ≡ 0
  unfolding sum
  evens zero [] l h g c = refl
  evens zero (k ∷ ks) l h g c = absurd (omega arith)
  evens (suc m) [] l h g c = refl
  evens (suc m) (k ∷ ks) l h g c =
      let a = s k in
      let b = t k in
      let R = extract (λ j. is_pair same a b (s j) (t j)) k ks (λ z. omega (arith, h a b, pair_self same law a b)) in
      let off : (w : A → A → ℕ) → ((x y : A) → w x y ≡ w y x) → sum (λ j. w (s j) (t j)) ks ≡ w a b + sum (λ j. w (s j) (t j)) R.rest = λ w u. R.takes (λ j. w (s j) (t j)) (λ j n. pair_near same law w u a b (s j) (t j) n) in
      let r = evens m R.rest (omega (arith, off (λ x y. 1) (λ x y. refl))) (λ x y. omega (arith, h x y, off (is_pair same x y) (pair_turn same law x y))) g c in
      omega (arith, off g c)

  pub pairs_even : (ks : List B) → ((a b : A) → sum (λ k. is_pair same a b (s k) (t k)) ks % 2 ≡ 0)
      → (g : A → A → ℕ) → ((x y : A) → g x y ≡ g y x) → sum (λ k. g (s k) (t k)) ks % 2 ≡ 0
  pairs_even ks = evens (sum (λ k. 1) ks) ks (omega arith)
