-- The links of the definition of splice are those of its values and of what strokes there are.
use mathlib.Core.Path.{◌≡◌, refl, ap, ◌∙◌}
use mathlib.Core.Bool.{Bool, true, false, ◌&&◌, not}
use mathlib.Core.List.{List, []}
use Prim.Native.Nat.{ℕ, zero, suc, ◌*◌, ◌/◌}
use lib.Dec.{eqb}
use lib.ListN.{length, get_or, replicate}
use Rattle.path_splice_rule.specs.Splice.{is_zero, pick, link_end, link_from, links, present, value_at, joinable}
use Rattle.path_splice_links.specs.Ends.{fit, fit_live}

module _ (j k : ℕ → ℕ → Bool) (h : (e f : ℕ) → j e f ≡ k e f) where
  pick_same : (ls : List ℕ) (e n : ℕ) → pick j ls e n ≡ pick k ls e n
  unfolding pick
  pick_same ls e zero = refl
  pick_same ls e (suc n) = rw (h e n, pick_same ls e n)

  end_same : (m : ℕ) (ls : List ℕ) (e : ℕ) → link_end j m ls e ≡ link_end k m ls e
  unfolding link_end
  end_same m ls e = rw (pick_same ls e m)

  from-same : (m n e : ℕ) (ls : List ℕ) → link_from j m n e ls ≡ link_from k m n e ls
  unfolding link_from
  from-same m zero e ls = refl
  from-same m (suc n) e ls = from-same m n (suc e) (link_end j m ls e) ∙ ap (link_from k m n (suc e)) (end_same m ls e)

  pub links-same : (m : ℕ) → links j m ≡ links k m
  unfolding links
  links-same m = from-same m m 0 (replicate m 0)

-- Splicing by a test of equality is splicing by the numbers of its classes: `vs` has a number for each end, and two ends that are there
-- have one number exactly if their points are the same; `todo` says what strokes there are.
module _ {A : Type 0} (d : A) (same : A → A → Bool) (ss : List (List A)) (todo vs : List ℕ) (there : (i : ℕ) → is_zero (get_or todo i 0) ≡ is_zero (present (get_or ss i [])))
    (agree : (e f : ℕ) → is_zero (get_or todo (e / 2) 0) ≡ false → is_zero (get_or todo (f / 2) 0) ≡ false → eqb (get_or vs e 0) (get_or vs f 0) ≡ same (value_at d ss e) (value_at d ss f)) where
  regroup : (a b c : Bool) (n : Bool) → (a && b) && (n && c) ≡ ((a && b) && n) && c
  regroup true true c true = refl
  regroup true true c false = refl
  regroup true false c n = refl
  regroup false b c n = refl

  pub join_is : (e f : ℕ) → fit_live todo vs e f ≡ joinable d same ss e f
  unfolding fit_live fit joinable
  join_is e f = go (is_zero (get_or todo (e / 2) 0)) (is_zero (get_or todo (f / 2) 0)) refl refl
    where
      go : (a b : Bool) → is_zero (get_or todo (e / 2) 0) ≡ a → is_zero (get_or todo (f / 2) 0) ≡ b
          → (not (is_zero (get_or todo (e / 2) 0)) && not (is_zero (get_or todo (f / 2) 0))) && (not (eqb (e / 2) (f / 2)) && eqb (get_or vs e 0) (get_or vs f 0))
          ≡ ((not (is_zero (present (get_or ss (e / 2) []))) && not (is_zero (present (get_or ss (f / 2) [])))) && not (eqb (e / 2) (f / 2))) && same (value_at d ss e) (value_at d ss f)
      go true b p q = rw (← there (e / 2), p)
      go false true p q = rw (← there (e / 2), ← there (f / 2), p, q)
      go false false p q = rw (← there (e / 2), ← there (f / 2), p, q, agree e f p q)

  pub links-are : links (fit_live todo vs) (2 * length ss) ≡ links (joinable d same ss) (2 * length ss)
  links-are = links-same (fit_live todo vs) (joinable d same ss) join_is (2 * length ss)
