-- Laws of strokes read from a list by place.
use mathlib.Core.Path.{◌≡◌, refl, ap, ◌∙◌}
use mathlib.Core.List.{List, [], ◌∷◌, map}
use Prim.Native.Nat.{ℕ, zero, suc, ◌+◌, ◌-◌, ◌≤◌, ◌<◌}
use native.Mathlib.Omega.{arith}
use native.Mathlib.Numerals.{add-one}
use native.Mathlib.Nat.{add-zero}
use lib.ListN.{length, get_or, take, drop, drop_of_length-le}
use lib.Seq.{drop-cons, get_or-drop}
use Rattle.path.specs.Strokes.{gather, strokes_of, number_at}

module _ {A : Type 0} (at : ℕ → A) where
  -- counting up to e: one is left, and then those after it
  pub gather-more : (i e : ℕ) → i < e → gather at i (e - i) ≡ at i ∷ gather at (i + 1) (e - (i + 1))
  unfolding gather
  gather-more i e h = let n : e - i ≡ suc (e - (i + 1)) = omega arith in rw n

  pub gather_none : (i e : ℕ) → e ≤ i → gather at i (e - i) ≡ []
  unfolding gather
  gather_none i e h = let z : e - i ≡ 0 = omega arith in rw z

  pub length-gather : (a n : ℕ) → length (gather at a n) ≡ n
  unfolding gather
  length-gather a zero = refl
  length-gather a (suc n) = ap suc (length-gather (a + 1) n)

  -- the i-th that is gathered
  pub gather-at : (a n i : ℕ) (d : A) → i < n → at (a + i) ≡ get_or (gather at a n) i d
  unfolding gather
  gather-at a zero i d h = absurd (omega arith)
  gather-at a (suc n) zero d h = ap at (add-zero a)
  gather-at a (suc n) (suc i) d h = let e : a + suc i ≡ a + 1 + i = omega arith in rw e (gather-at (a + 1) n i d (omega arith))

-- the strokes from the i-th on, each made over by f
module _ {A C : Type 0} (f : List A → C) (at : ℕ → A) (n : ℕ) (ss : List ℕ) (i : ℕ) where
  pub strokes_more : (e : ℕ) → i < length ss → e ≡ get_or ss (i + 1) n
      → map f (strokes_of at n (drop i ss)) ≡ f (gather at (get_or ss i 0) (e - get_or ss i 0)) ∷ map f (strokes_of at n (drop (i + 1) ss))
  unfolding strokes_of
  strokes_more e h g = rw (g, drop-cons ss i 0 h, get_or-drop, add-zero, add-one)

  pub strokes_none : length ss ≤ i → map f (strokes_of at n (drop i ss)) ≡ []
  unfolding strokes_of
  strokes_none h = rw (drop_of_length-le ss h)

-- numbers that are read by place are those of a part of the list
pub gather-drop : (ns : List ℕ) (a n : ℕ) → a + n ≤ length ns → gather (number_at ns) a n ≡ take n (drop a ns)
unfolding gather
gather-drop ns a zero h = refl
gather-drop ns a (suc n) h = ap (λ (l : List ℕ). get_or ns a 0 ∷ l) (gather-drop ns (a + 1) n (omega arith)) ∙ rw (drop-cons ns a 0 (omega arith), add-one)
