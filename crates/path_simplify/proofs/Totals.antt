-- Laws of leaving points out of every stroke.
use mathlib.Core.Path.{◌≡◌, refl, sym, ap, ◌∙◌, subst}
use mathlib.Core.Logic.{⊎_elim}
use mathlib.Core.Bool.{true, ◌&&◌}
use mathlib.Core.List.{List, [], ◌∷◌, ◌++◌}
use Prim.Native.Nat.{ℕ, zero, suc, ◌+◌, ◌-◌, ◌*◌, ◌≤◌, ◌<◌}
use native.Mathlib.Omega.{arith}
use native.Mathlib.Numerals.{add-one}
use native.Mathlib.Nat.{add-zero, zero-add, le_refl, mul-le-mul_right}
use lib.ListN.{length, get_or, drop, length-append, drop_of_length-le}
use lib.Seq.{drop-cons, get_or-drop}
use lib.Dec.{leb, eqb}
use lib.Ieee.{Float}
use borrow.Author.Tests.{leb-true, eqb-true, lt-ltb, le-ltb}
use Rattle.refusal.specs.Limits.{most_to_simplify}
use Rattle.vector.specs.declared.Vector.{Vector}
use Rattle.path.specs.Strokes.{good_from, good_starts}
use Rattle.path.specs.Laid.{joined}
use Rattle.path.proofs.Tests.{both, split}
use Rattle.path_simplify.specs.Simplify.{Thin, nothing, thin, thinned, thins_of, simplified, distances}
use Rattle.path_simplify.specs.InnerNotes.{plus}
use Rattle.path_simplify.specs.Call.{short_of}
use Rattle.path_simplify.proofs.Thins.{Short, short, thin-none}

-- ---- one stroke

module _ (t : Float) (at : ℕ → Vector) (a e : ℕ) where
  pub thinned-none : e ≤ a → thinned t at a e ≡ nothing
  unfolding thinned
  thinned-none h = rw (le-ltb a e h)

  pub thinned-points : a < e → (thinned t at a e).points ≡ (thin (e - 1 - a) t at a (e - 1)).points ++ (at (e - 1) ∷ [])
  unfolding thinned
  thinned-points h = rw (lt-ltb a e h)

  pub thinned-measured : a < e → (thinned t at a e).measured ≡ (thin (e - 1 - a) t at a (e - 1)).measured
  unfolding thinned
  thinned-measured h = rw (lt-ltb a e h)

  pub thinned-length : a < e → length (thinned t at a e).points ≡ length (thin (e - 1 - a) t at a (e - 1)).points + 1
  thinned-length h = ap length (thinned-points h) ∙ length-append (thin (e - 1 - a) t at a (e - 1)).points (at (e - 1) ∷ [])

  -- the notes: nothing, then all but the last, then the last
  pub thinned-noted : a < e → (u v w : Thin) → u ≡ nothing → v ≡ plus u (thin (e - 1 - a) t at a (e - 1)) → w ≡ plus v (record { points = at (e - 1) ∷ []; measured = 0 }) → w ≡ thinned t at a e
  unfolding thinned plus
  thinned-noted h u v w f g k = rw (k, g, f, lt-ltb a e h, zero-add (thin (e - 1 - a) t at a (e - 1)).measured, add-zero (thin (e - 1 - a) t at a (e - 1)).measured)

-- no more points than there are, and a bound on the distances
pub stroke_most : (t : Float) (at : ℕ → Vector) (a e : ℕ) → e - a ≤ most_to_simplify → Short most_to_simplify (e - a) (thinned t at a e)
stroke_most t at a e h =
    ⊎_elim
    (λ (l : a + 2 ≤ e).
    let s = short t at (e - 1 - a) a (e - 1) (omega arith) (omega arith) in
    record {
      few = omega (arith, thinned-length t at a e (omega arith));
      quick = omega (arith, thinned-measured t at a e (omega arith), wider (omega arith));
    })
    (λ (l : e < a + 2).
    ⊎_elim
    (λ (k : e ≤ a). rw (thinned-none t at a e k) (record { few = omega arith; quick = omega arith }))
    (λ (k : a < e). let z = thin-none t at a (e - 1) (omega arith) in
    record {
      few = omega (arith, thinned-length t at a e k, ap (λ (x : Thin). length x.points) z);
      quick = omega (arith, thinned-measured t at a e k, ap (λ (x : Thin). x.measured) z);
    })
    (split e a))
    (split (a + 2) e)
  where
    wider : e - 1 - a ≤ most_to_simplify → (e - 1 - a) * (e - 1 - a) ≤ most_to_simplify * (e - 1 - a)
    wider l = mul-le-mul_right (e - 1 - a) l

-- the strokes of a good table, none too long
module _ (t : Float) (at : ℕ → Vector) (n : ℕ) where
  from-most : (s : ℕ) (ss : List ℕ) → s ≤ n → good_from n s ss ≡ true → short_of n (s ∷ ss) ≡ true
      → (length (joined (simplified (thins_of t at n (s ∷ ss)))) ≤ n - s) × (distances (thins_of t at n (s ∷ ss)) ≤ most_to_simplify * (n - s))
  unfolding good_from short_of thins_of joined distances
  from-most s [] h g k =
      let b = both (leb (n - s) most_to_simplify) true k in
      let w = stroke_most t at s n (leb-true _ _ b.0) in
      (omega (arith, w.few, length-append (thinned t at s n).points []), omega (arith, w.quick))
  from-most s (u ∷ us) h g k =
      let b = both (leb (u - s) most_to_simplify) (short_of n (u ∷ us)) k in
      let d = both (leb s u && leb u n) (good_from n u us) g in
      let f = both (leb s u) (leb u n) d.0 in
      let l = leb-true s u f.0 in
      let m = leb-true u n f.1 in
      let w = stroke_most t at s u (leb-true _ _ b.0) in
      let r = from-most u us m d.1 b.1 in
      (omega (arith, w.few, length-append (thinned t at s u).points (joined (simplified (thins_of t at n (u ∷ us))))), omega (arith, w.quick))

  pub all_most : (ss : List ℕ) → good_starts n ss ≡ true → short_of n ss ≡ true
      → (length (joined (simplified (thins_of t at n ss))) ≤ n) × (distances (thins_of t at n ss) ≤ most_to_simplify * n)
  unfolding good_starts thins_of joined distances
  all_most [] g k = omega arith
  all_most (s ∷ ss) g k =
      let b = both (eqb s 0) (good_from n s ss) g in
      let z = eqb-true s 0 b.0 in
      let r = from-most s ss (omega arith) b.1 k in
      let e : n - s ≡ n = omega arith in
      rw e at r

  pub all_strokes : (ss : List ℕ) → length (simplified (thins_of t at n ss)) ≡ length ss
  unfolding thins_of
  all_strokes [] = refl
  all_strokes (s ∷ ss) = ap suc (all_strokes ss)

-- ---- the strokes from the i-th on

module _ (t : Float) (at : ℕ → Vector) (n : ℕ) (ss : List ℕ) (i : ℕ) where
  pub thins_more : (e : ℕ) → i < length ss → e ≡ get_or ss (i + 1) n → thins_of t at n (drop i ss) ≡ thinned t at (get_or ss i 0) e ∷ thins_of t at n (drop (i + 1) ss)
  unfolding thins_of
  thins_more e h g = rw (g, drop-cons ss i 0 h, get_or-drop, add-zero, add-one)

  pub thins_none : length ss ≤ i → thins_of t at n (drop i ss) ≡ []
  unfolding thins_of
  thins_none h = rw (drop_of_length-le ss h)

module _ {t : Thin} {ts all : List Thin} (e : all ≡ t ∷ ts) where
  pub more-points : simplified all ≡ t.points ∷ simplified ts
  more-points = rw e

  pub more-distances : distances all ≡ t.measured + distances ts
  unfolding distances
  more-distances = rw e

-- a turn of the loop that tests the lengths
module _ (n : ℕ) (ss : List ℕ) (i : ℕ) where
  pub short_more : (e : ℕ) → i < length ss → e ≡ get_or ss (i + 1) n → short_of n (drop i ss) ≡ leb (e - get_or ss i 0) most_to_simplify && short_of n (drop (i + 1) ss)
  unfolding short_of
  short_more e h g = rw (g, drop-cons ss i 0 h, get_or-drop, add-zero, add-one)

  pub short_none : length ss ≤ i → short_of n (drop i ss) ≡ true
  unfolding short_of
  short_none h = rw (drop_of_length-le ss h)

-- ---- where a stroke ends

ends_from : (n prev : ℕ) (ss : List ℕ) (i : ℕ) → good_from n prev ss ≡ true → get_or ss i n ≤ n
unfolding good_from
ends_from n prev [] i h = le_refl n
ends_from n prev (s ∷ ss) zero h = leb-true s n (both (leb prev s) (leb s n) (both (leb prev s && leb s n) (good_from n s ss) h).0).1
ends_from n prev (s ∷ ss) (suc i) h = ends_from n s ss i (both (leb prev s && leb s n) (good_from n s ss) h).1

-- in a good table no stroke ends past the points
pub ends_in : (n : ℕ) (ss : List ℕ) (i : ℕ) → good_starts n ss ≡ true → get_or ss (i + 1) n ≤ n
unfolding good_starts
ends_in n [] i h = le_refl n
ends_in n (s ∷ ss) i h = subst (λ (k : ℕ). get_or (s ∷ ss) k n ≤ n) (sym (add-one i)) (ends_from n s ss i (both (eqb s 0) (good_from n s ss) h).1)

shorts : (n : ℕ) (ss : List ℕ) (i : ℕ) → short_of n ss ≡ true → i < length ss → get_or ss (suc i) n - get_or ss i 0 ≤ most_to_simplify
unfolding short_of
shorts n [] i h l = absurd (omega arith)
shorts n (s ∷ ss) zero h l = leb-true _ _ (both (leb (get_or ss 0 n - s) most_to_simplify) (short_of n ss) h).0
shorts n (s ∷ ss) (suc i) h l = shorts n ss i (both (leb (get_or ss 0 n - s) most_to_simplify) (short_of n ss) h).1 (omega arith)

-- in a table of short strokes each stroke is short
pub short_in : (n : ℕ) (ss : List ℕ) (i : ℕ) → short_of n ss ≡ true → i < length ss → get_or ss (i + 1) n - get_or ss i 0 ≤ most_to_simplify
short_in n ss i h l = subst (λ (k : ℕ). get_or ss k n - get_or ss i 0 ≤ most_to_simplify) (sym (add-one i)) (shorts n ss i h l)
