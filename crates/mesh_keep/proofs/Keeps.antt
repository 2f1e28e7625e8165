-- The rules of keeping, a face at a time.
use mathlib.Core.Path.{◌≡◌, refl, sym, ap, ◌∙◌}
use mathlib.Core.Bool.{Bool, true, false, ◌||◌}
use mathlib.Core.List.{List, [], ◌∷◌}
use Prim.Native.Nat.{ℕ, ◌+◌, ◌-◌, ◌/◌, ◌≤◌, ◌<◌}
use native.Mathlib.Omega.{arith}
use native.Mathlib.Numerals.{add-one}
use lib.ListN.{length, get_or, take, drop, length-drop}
use lib.Seq.{drop-cons, take_all}
use lib.Ieee.{Float, binary64, sub, lt}
use Rattle.vector.specs.Lengths.{one64}
use Rattle.mesh_mode.specs.declared.Mode.TheVariants.{Polygonal, Silhouette}
use Rattle.mesh_keep.specs.Keep.{Seen, turn_of, some_turns, two_kept, kept_by, faces_of}

pub or_yes : (b r : Bool) → b ≡ true → true ≡ (b || r)
or_yes b r e = rw e

pub or_no : (b r : Bool) → b ≡ false → r ≡ (b || r)
or_no b r e = rw e

-- ---- some face that turns
module _ (s : Seen) (tolerance : Float) (f : ℕ) (l : List ℕ) where
  none : (m : List ℕ) → length m ≡ 0 → some_turns s tolerance f (faces_of m) ≡ false
  unfolding some_turns
  none [] e = refl
  none (x ∷ m) e = absurd (omega arith)

  pub turns_none : (i : ℕ) → length l ≤ i → some_turns s tolerance f (faces_of (drop i l)) ≡ false
  turns_none i h = none (drop i l) (omega (arith, length-drop i l))

  module _ (i : ℕ) (h : i < length l) where
    first : some_turns s tolerance f (faces_of (drop i l)) ≡ (lt (turn_of s f (get_or l i 0 / 3)) (sub binary64 one64 tolerance) || some_turns s tolerance f (faces_of (drop (i + 1) l)))
    unfolding some_turns
    first = rw (drop-cons l i 0 h, add-one i)

    pub turns_more : (x : Float) → x ≡ turn_of s f (get_or l i 0 / 3) → lt x (sub binary64 one64 tolerance) ≡ false
        → some_turns s tolerance f (faces_of (drop (i + 1) l)) ≡ some_turns s tolerance f (faces_of (drop i l))
    turns_more x e n = or_no _ _ (ap (λ (y : Float). lt y (sub binary64 one64 tolerance)) (sym e) ∙ n) ∙ sym first

    pub turns-found : (x : Float) → x ≡ turn_of s f (get_or l i 0 / 3) → lt x (sub binary64 one64 tolerance) ≡ true → true ≡ some_turns s tolerance f (faces_of (drop i l))
    turns-found x e n = or_yes _ _ (ap (λ (y : Float). lt y (sub binary64 one64 tolerance)) (sym e) ∙ n) ∙ sym first

-- ---- the modes, by how many sides an edge has
module _ (s : Seen) where
  pub few_kept : (tolerance : Float) (l : List ℕ) → length l < 2 → true ≡ kept_by Polygonal s false tolerance (faces_of l)
  unfolding kept_by
  few_kept tolerance [] h = refl
  few_kept tolerance (x ∷ []) h = refl
  few_kept tolerance (x ∷ y ∷ l) h = absurd (omega arith)

  pub more-kept : (tolerance : Float) (l : List ℕ) → 2 ≤ length l
      → some_turns s tolerance (get_or l 0 0 / 3) (faces_of (take (length l - 1) (drop 1 l))) ≡ kept_by Polygonal s false tolerance (faces_of l)
  unfolding kept_by
  more-kept tolerance [] h = absurd (omega arith)
  more-kept tolerance (x ∷ []) h = absurd (omega arith)
  more-kept tolerance (x ∷ y ∷ l) h =
      let e : length (x ∷ y ∷ l) - 1 ≡ length (y ∷ l) = omega arith in
      ap (λ (m : List ℕ). some_turns s tolerance (x / 3) (faces_of m)) (ap (λ (n : ℕ). take n (y ∷ l)) e ∙ take_all (length (y ∷ l)) (y ∷ l) (omega arith))

  pub not_two_kept : (flip : Bool) (cosine tolerance : Float) (l : List ℕ) → (length l ≡ 2 → ⊥) → true ≡ kept_by (Silhouette cosine) s flip tolerance (faces_of l)
  unfolding kept_by
  not_two_kept flip cosine tolerance [] h = refl
  not_two_kept flip cosine tolerance (x ∷ []) h = refl
  not_two_kept flip cosine tolerance (x ∷ y ∷ []) h = absurd (h refl)
  not_two_kept flip cosine tolerance (x ∷ y ∷ z ∷ l) h = refl

  pub two-are_kept : (flip : Bool) (cosine tolerance : Float) (l : List ℕ) → length l ≡ 2 → two_kept s flip cosine (get_or l 0 0 / 3) (get_or l 1 0 / 3) ≡ kept_by (Silhouette cosine) s flip tolerance (faces_of l)
  unfolding kept_by
  two-are_kept flip cosine tolerance [] h = absurd (omega arith)
  two-are_kept flip cosine tolerance (x ∷ []) h = absurd (omega arith)
  two-are_kept flip cosine tolerance (x ∷ y ∷ []) h = refl
  two-are_kept flip cosine tolerance (x ∷ y ∷ z ∷ l) h = absurd (omega arith)

  -- whether an edge is flipped is no matter in a polygonal drawing, and the tolerance none in a silhouette
  pub any_flip : (flip : Bool) (tolerance : Float) (fs : List ℕ) → kept_by Polygonal s false tolerance fs ≡ kept_by Polygonal s flip tolerance fs
  unfolding kept_by
  any_flip flip tolerance [] = refl
  any_flip flip tolerance (f ∷ []) = refl
  any_flip flip tolerance (f ∷ g ∷ fs) = refl

  pub any_tolerance : (flip : Bool) (cosine a b : Float) (fs : List ℕ) → kept_by (Silhouette cosine) s flip a fs ≡ kept_by (Silhouette cosine) s flip b fs
  unfolding kept_by
  any_tolerance flip cosine a b [] = refl
  any_tolerance flip cosine a b (f ∷ []) = refl
  any_tolerance flip cosine a b (f ∷ g ∷ []) = refl
  any_tolerance flip cosine a b (f ∷ g ∷ h ∷ fs) = refl
