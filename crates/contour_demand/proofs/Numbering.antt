-- The numbers of points, spliced, are the numbers of the points spliced: first for any numbers that agree with the test, then for those of its classes.
use mathlib.Core.Path.{◌≡◌, refl, sym, ap, ◌∙◌, subst}
use mathlib.Core.Bool.{Bool, true, false, ◌&&◌, not, cond}
use mathlib.Core.List.{List, [], ◌∷◌, ◌++◌, map, reverse_aux}
use mathlib.Core.Logic.{⊎_elim}
use Prim.Native.Nat.{ℕ, zero, suc, ◌+◌, ◌*◌, ◌<◌, ◌≤◌}
use native.Mathlib.Omega.{arith}
use native.Mathlib.Decide.{ℕ_discrete}
use lib.Dec.{eqb}
use lib.ListN.{length, get_or, drop, length-map, get_or-map}
use Rattle.order.proofs.Tests.{truth, clash, eqb-false, eqb-self}
use Rattle.refusal.specs.Each.{Each}
use Rattle.vector.specs.declared.Vector.{Vector}
use Rattle.path.specs.Laid.{joined}
use Rattle.path_classes.specs.Classes.{first_from, same_point}
use Rattle.path_splice_rule.specs.Splice.{stroke_of, side_of, free, is_zero, links, chains_of, last_of, first_of, present, end_of, turned, value_at, joinable, read_from, added, read_chain, splice}
use Rattle.path_splice_rule.specs.Demand.{Law}
use Rattle.path_splice.proofs.Joining.{links-same}
use Rattle.path_segments.specs.Join.{origin}
use Rattle.path_segments.proofs.Joins.{points_lawful}
use Rattle.contour_demand.specs.Numbering.{number_in, ByClasses}
use Rattle.contour_demand.proofs.Kept.{each_at}

module _ {A : Type 0} (number : A → ℕ) where
  abbrev numbers : List (List A) → List (List ℕ)
  numbers = map (map number)

  -- ---- a stroke

  last_of_lem : (x : A) (s : List A) → last_of (number x) (map number s) ≡ number (last_of x s)
  unfolding last_of
  last_of_lem x [] = refl
  last_of_lem x (y ∷ s) = last_of_lem y s

  -- an end of a stroke with points, which depends on neither z nor d
  end_of_lem : (z : ℕ) (d : A) (k : ℕ) (x : A) (s : List A) → end_of z k (number x ∷ map number s) ≡ number (end_of d k (x ∷ s))
  unfolding end_of first_of last_of
  end_of_lem z d zero x s = refl
  end_of_lem z d (suc k) x s = last_of_lem x s

  there : (s : List A) → present (map number s) ≡ present s
  unfolding present
  there [] = refl
  there (x ∷ s) = refl

  back : (s t : List A) → reverse_aux (map number s) (map number t) ≡ map number (reverse_aux s t)
  back [] t = refl
  back (x ∷ s) t = back s (x ∷ t)

  turned-of : (k : ℕ) (s : List A) → turned k (map number s) ≡ map number (turned k s)
  unfolding turned
  turned-of zero s = refl
  turned-of (suc k) s = back s []

  rest_of : (s : List A) → drop 1 (map number s) ≡ map number (drop 1 s)
  rest_of [] = refl
  rest_of (x ∷ s) = refl

  append-of : (s t : List A) → map number s ++ map number t ≡ map number (s ++ t)
  append-of [] t = refl
  append-of (x ∷ s) t = ap (λ (l : List ℕ). number x ∷ l) (append-of s t)

  -- ---- strokes

  module _ (ss : List (List A)) where
    stroke-at : (i : ℕ) → get_or (numbers ss) i [] ≡ map number (get_or ss i [])
    stroke-at i = get_or-map (map number) ss i []

    read_of : (e : ℕ) → read_from (numbers ss) e ≡ map number (read_from ss e)
    unfolding read_from
    read_of e = rw (stroke-at (stroke_of e)) (turned-of (side_of e) (get_or ss (stroke_of e) []))

    added_of : (c : List ℕ) → added (numbers ss) c ≡ map number (added ss c)
    unfolding added
    added_of [] = refl
    added_of (e ∷ c) = rw (read_of e, rest_of (read_from ss e), added_of c) (append-of (drop 1 (read_from ss e)) (added ss c))

    chain-of : (c : List ℕ) → read_chain (numbers ss) c ≡ map number (read_chain ss c)
    unfolding read_chain
    chain-of [] = refl
    chain-of (e ∷ c) = rw (read_of e, added_of c) (append-of (read_from ss e) (added ss c))

    chains-of : (cs : List (List ℕ)) → map (read_chain (numbers ss)) cs ≡ numbers (map (read_chain ss) cs)
    chains-of [] = refl
    chains-of (c ∷ cs) = rw (chain-of c, chains-of cs)

  all_there : (ss : List (List A)) → map present (numbers ss) ≡ map present ss
  all_there [] = refl
  all_there (s ∷ ss) = rw (there s, all_there ss)

  -- ---- the law, for numbers that agree with the test on points of which P holds

  module _ (same : A → A → Bool) (P : A → Type 0) (agree : (x y : A) → P x → P y → eqb (number x) (number y) ≡ same x y) (z : ℕ) (d : A) where
    last-holds : (x : A) (s : List A) → P x → Each P s → P (last_of x s)
    unfolding last_of
    last-holds x [] p h = p
    last-holds x (y ∷ s) p h = last-holds y s h.0 h.1

    end-holds : (k : ℕ) (x : A) (s : List A) → P x → Each P s → P (end_of d k (x ∷ s))
    unfolding end_of first_of last_of
    end-holds zero x s p h = p
    end-holds (suc k) x s p h = last-holds x s p h

    meets : (n : Bool) (j k : ℕ) (s t : List A) → Each P s → Each P t
        → not (is_zero (present (map number s))) && not (is_zero (present (map number t))) && n && eqb (end_of z j (map number s)) (end_of z k (map number t))
        ≡ not (is_zero (present s)) && not (is_zero (present t)) && n && same (end_of d j s) (end_of d k t)
    unfolding present
    meets n j k [] t p q = refl
    meets n j k (x ∷ s) [] p q = refl
    meets n j k (x ∷ s) (y ∷ t) p q =
        rw (end_of_lem z d j x s, end_of_lem z d k y t, agree (end_of d j (x ∷ s)) (end_of d k (y ∷ t)) (end-holds j x s p.0 p.1) (end-holds k y t q.0 q.1))

    module _ (ss : List (List A)) (h : Each (Each P) ss) where
      joins : (e f : ℕ) → joinable z eqb (numbers ss) e f ≡ joinable d same ss e f
      unfolding joinable value_at
      joins e f =
          let at : (i : ℕ) → Each P (get_or ss i []) = each_at (Each P) [] tt ss h in
          let n = not (eqb (stroke_of e) (stroke_of f)) in
          rw (stroke-at ss (stroke_of e), stroke-at ss (stroke_of f))
          (meets n (side_of e) (side_of f) (get_or ss (stroke_of e) []) (get_or ss (stroke_of f) []) (at (stroke_of e)) (at (stroke_of f)))

      linked : links (joinable z eqb (numbers ss)) (2 * length (numbers ss)) ≡ links (joinable d same ss) (2 * length ss)
      linked = rw (length-map ss (map number)) (links-same (joinable z eqb (numbers ss)) (joinable d same ss) joins (2 * length ss))

      by-numbers : splice z eqb (numbers ss) ≡ numbers (splice d same ss)
      unfolding splice
      by-numbers =
          let ls = links (joinable d same ss) (2 * length ss) in
          rw (linked, length-map ss (map number), all_there ss) (chains-of ss (chains_of (λ e. get_or ls e free) (length ss) (map present ss)))

-- ---- the places of points

module _ {A : Type 0} (P : A → Type 0) where
  each_left : (s t : List A) → Each P (s ++ t) → Each P s
  each_left [] t h = tt
  each_left (x ∷ s) t h = (h.0, each_left s t h.1)

  each_right : (s t : List A) → Each P (s ++ t) → Each P t
  each_right [] t h = h
  each_right (x ∷ s) t h = each_right s t h.1

  each-apart : (ss : List (List A)) → Each P (joined ss) → Each (Each P) ss
  unfolding joined
  each-apart [] h = tt
  each-apart (s ∷ ss) h = (each_left s (joined ss) h, each-apart ss (each_right s (joined ss) h))

  each-place : (d : A) (xs : List A) → ((i : ℕ) → i < length xs → P (get_or xs i d)) → Each P xs
  each-place d [] h = tt
  each-place d (x ∷ xs) h = (h 0 (omega arith), each-place d xs (λ i l. h (suc i) (omega arith)))

module _ {A : Type 0} (same : A → A → Bool) (L : Law same) where
  -- the first that is the same as one of the n elements from k on is equal to it
  first-at : (at : ℕ → A) (n k e : ℕ) → k ≤ e → e < k + n → at (first_from same at (at e) k n) ≡ at e
  unfolding first_from
  first-at at zero k e l h = absurd (omega arith)
  first-at at (suc n) k e l h = go (same (at e) (at k)) refl (λ m. first-at at n (k + 1) e m (omega arith))
    where
      go : (b : Bool) → same (at e) (at k) ≡ b → (k + 1 ≤ e → at (first_from same at (at e) (k + 1) n) ≡ at e)
          → at (cond b k (first_from same at (at e) (k + 1) n)) ≡ at e
      go true q r = sym (L.eq _ _ q)
      go false q r = elim (ℕ_discrete k e) [ yes i ↦ absurd (clash (L.self (at e)) (subst (λ (j : ℕ). same (at e) (at j) ≡ false) i q)) | no i ↦ r (omega arith) ]

  module _ (d : A) (ss : List (List A)) where
    -- what stands at the number of a point is the point
    abbrev Found : A → Type 0
    Found x = get_or (joined ss) (number_in d same ss x) d ≡ x

    found : Each (Each Found) ss
    unfolding number_in
    found =
        let at : ℕ → A = λ k. get_or (joined ss) k d in
        each-apart Found ss (each-place Found d (joined ss) (λ i l. first-at at (length (joined ss)) 0 i (omega arith) (omega arith)))

    agree : (x y : A) → Found x → Found y → eqb (number_in d same ss x) (number_in d same ss y) ≡ same x y
    agree x y p q = ⊎_elim
        (λ t. rw (L.eq x y t) (eqb-self (number_in d same ss y) ∙ sym (L.self y)))
        (λ t. eqb-false _ _ (λ e. clash (subst (λ (w : A). same x w ≡ true) (sym p ∙ ap (λ (k : ℕ). get_or (joined ss) k d) e ∙ q) (L.self x)) t) ∙ sym t)
        (truth (same x y))

pub by_classes : {A : Type 0} (same : A → A → Bool) → Law same → (d : A) (ss : List (List A)) → ByClasses d same ss
by_classes same L d ss = by-numbers (number_in d same ss) same (Found same L d ss) (agree same L d ss) 0 d ss (found same L d ss)

-- and so of the points of segments
pub segments_by_classes : (ss : List (List Vector)) → ByClasses origin same_point ss
segments_by_classes ss = by_classes same_point points_lawful origin ss
