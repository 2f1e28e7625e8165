-- Which triples of sides give a segment, told in two other ways: tests that are computed for all 27.
use mathlib.Core.Path.{◌≡◌, refl, ap, ◌∙◌}
use mathlib.Core.Bool.{Bool, true, false, cond, ◌&&◌, ◌||◌, beq}
use Prim.Native.Nat.{ℕ, ◌+◌}
use native.Mathlib.Omega.{arith}
use lib.Dec.{T, eqb}
use borrow.Author.Tests.{eq-eqb, ne_eqb}
use lib.Ieee.Fits.{and_l, and_r}
use mir.Val.{bool_byte}
use Rattle.mesh_contour_rule.specs.declared.Side.{Side}
use Rattle.mesh_contour_rule.specs.declared.Side.TheVariants.{Above, Below, On}
use Rattle.mesh_contour_rule.specs.Contour.{above, below, on, parts, gives, gives_by}

abbrev every : (Side → Bool) → Bool
every f = f Above && f Below && f On

at : (f : Side → Bool) → T (every f) → (s : Side) → T (f s)
at f h Above = and_l (f Above) (f Below) (and_l (f Above && f Below) (f On) h)
at f h Below = and_r (f Above) (f Below) (and_l (f Above && f Below) (f On) h)
at f h On = and_r (f Above && f Below) (f On) h

-- two tests of three sides that agree on all triples
module _ (f g : Side → Side → Side → Bool) where
  abbrev alike : Side → Side → Side → Bool
  alike r s t = beq (f r s t) (g r s t)

  on-all : T (every (λ r. every (λ s. every (alike r s)))) → (r s t : Side) → f r s t ≡ g r s t
  on-all h r s t = same _ _ (at (alike r s) (at (λ s. every (alike r s)) (at (λ r. every (λ s. every (alike r s))) h r) s) t)
    where
      same : (a b : Bool) → T (beq a b) → a ≡ b
      same true true h = refl
      same true false h = absurd h
      same false true h = absurd h
      same false false h = refl

-- a segment is given where a side is parted, and where two corners are on and the third is above
pub gives-where : (r s t : Side) → gives_by r s t ≡ (parts r s || parts s t || parts t r || (eqb (above r + above s + above t) 1 && eqb (on r + on s + on t) 2))
unfolding gives
gives-where = on-all gives_by (λ r s t. parts r s || parts s t || parts t r || (eqb (above r + above s + above t) 1 && eqb (on r + on s + on t) 2)) tt

-- none above gives nothing; none below only one above, with two on
abbrev counted : ℕ → ℕ → Bool
counted a b = cond (eqb a 0) false (cond (eqb b 0) (eqb a 1) true)

counted-gives : (r s t : Side) → counted (above r + above s + above t) (below r + below s + below t) ≡ gives_by r s t
unfolding gives
counted-gives = on-all (λ r s t. counted (above r + above s + above t) (below r + below s + below t)) gives_by tt

-- ---- with what the code counted: a test of a side as a number
pub above-counted : (s : Side) (b : Bool) → b ≡ eqb (above s) 1 → bool_byte b ≡ above s
above-counted Above b e = rw e
above-counted Below b e = rw e
above-counted On b e = rw e

pub below-counted : (s : Side) (b : Bool) → b ≡ eqb (below s) 1 → bool_byte b ≡ below s
below-counted Above b e = rw e
below-counted Below b e = rw e
below-counted On b e = rw e

module _ (r s t : Side) {a b c d e f : ℕ} (A : a ≡ above r) (B : b ≡ above s) (C : c ≡ above t) (D : d ≡ below r) (E : e ≡ below s) (F : f ≡ below t) where
  by_counts : counted (a + b + c) (d + e + f) ≡ gives_by r s t
  by_counts =
      let k : a + b + c ≡ above r + above s + above t = omega arith in
      let l : d + e + f ≡ below r + below s + below t = omega arith in
      ap (λ (n : ℕ). counted n (d + e + f)) k ∙ ap (λ (n : ℕ). counted (above r + above s + above t) n) l ∙ counted-gives r s t

  pub none_above : a + b + c ≡ 0 → false ≡ gives_by r s t
  none_above h = rw (eq-eqb (a + b + c) 0 h) at by_counts

  pub none_below : (a + b + c ≡ 0 → ⊥) → d + e + f ≡ 0 → eqb (a + b + c) 1 ≡ gives_by r s t
  none_below h k = rw (ne_eqb (a + b + c) 0 h, eq-eqb (d + e + f) 0 k) at by_counts

  pub both_there : (a + b + c ≡ 0 → ⊥) → (d + e + f ≡ 0 → ⊥) → true ≡ gives_by r s t
  both_there h k = rw (ne_eqb (a + b + c) 0 h, ne_eqb (d + e + f) 0 k) at by_counts
