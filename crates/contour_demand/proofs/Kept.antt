-- What holds of each element of a list. Splicing makes no point: what holds of every point of the strokes given holds of every point of those that they are joined to.
use mathlib.Core.Bool.{Bool}
use mathlib.Core.List.{List, [], ◌∷◌, ◌++◌, map, reverse_aux}
use Prim.Native.Nat.{ℕ, zero, suc, ◌*◌, ◌%◌, ◌/◌}
use lib.ListN.{length, get_or, drop}
use Rattle.refusal.specs.Each.{Each}
use Rattle.path_splice_rule.specs.Splice.{free, links, chains_of, present, joinable, turned, read_from, added, read_chain, splice}

pub each-zip : {A : Type 0} {P Q R : A → Type 0} → ((x : A) → P x → Q x → R x) → (xs : List A) → Each P xs → Each Q xs → Each R xs
each-zip f [] p q = tt
each-zip f (x ∷ xs) p q = (f x p.0 q.0, each-zip f xs p.1 q.1)

-- the element at a place, or another that it holds of
pub each_at : {A : Type 0} (P : A → Type 0) (d : A) → P d → (xs : List A) → Each P xs → (i : ℕ) → P (get_or xs i d)
each_at P d p [] h i = p
each_at P d p (x ∷ xs) h zero = h.0
each_at P d p (x ∷ xs) h (suc i) = each_at P d p xs h.1 i

module _ {A : Type 0} (P : A → Type 0) where
  pub each_append : (s t : List A) → Each P s → Each P t → Each P (s ++ t)
  each_append [] t p q = q
  each_append (x ∷ s) t p q = (p.0, each_append s t p.1 q)

  each_back : (s t : List A) → Each P s → Each P t → Each P (reverse_aux s t)
  each_back [] t p q = q
  each_back (x ∷ s) t p q = each_back s (x ∷ t) p.1 (p.0, q)

  each-rest : (s : List A) → Each P s → Each P (drop 1 s)
  each-rest [] p = tt
  each-rest (x ∷ s) p = p.1

  each-turned : (k : ℕ) (s : List A) → Each P s → Each P (turned k s)
  unfolding turned
  each-turned zero s p = p
  each-turned (suc k) s p = each_back s [] p tt

  module _ (ss : List (List A)) (h : Each (Each P) ss) where
    each_read : (e : ℕ) → Each P (read_from ss e)
    unfolding read_from
    each_read e = each-turned (e % 2) (get_or ss (e / 2) []) (each_at (Each P) [] tt ss h (e / 2))

    each-added : (c : List ℕ) → Each P (added ss c)
    unfolding added
    each-added [] = tt
    each-added (e ∷ c) = each_append (drop 1 (read_from ss e)) (added ss c) (each-rest (read_from ss e) (each_read e)) (each-added c)

    each-chain : (c : List ℕ) → Each P (read_chain ss c)
    unfolding read_chain
    each-chain [] = tt
    each-chain (e ∷ c) = each_append (read_from ss e) (added ss c) (each_read e) (each-added c)

    each-chains : (cs : List (List ℕ)) → Each (Each P) (map (read_chain ss) cs)
    each-chains [] = tt
    each-chains (c ∷ cs) = (each-chain c, each-chains cs)

    pub each-spliced : (d : A) (same : A → A → Bool) → Each (Each P) (splice d same ss)
    unfolding splice
    each-spliced d same = let ls = links (joinable d same ss) (2 * length ss) in each-chains (chains_of (λ e. get_or ls e free) (length ss) (map present ss))
