-- Heights over the plane are finite where vertices and plane are within their ranges; and where the plane lies between two of
-- them their difference is no smaller than either, so that the share of the crossing is at most 1.
use mathlib.Core.Path.{◌≡◌, refl, sym, ap, ◌∙◌, subst}
use mathlib.Core.Bool.{Bool, true, false, cond, not, true≢false, ◌&&◌}
use Prim.Native.Nat.{ℕ, zero, suc, ◌+◌, ◌*◌, ◌^◌, ◌≤◌}
use native.Mathlib.Nat.{add_comm, add-mul, mul-pos, mul_assoc, mul_comm, zero-lt-suc}
use native.Mathlib.Omega.{arith}
use lib.Dec.{T, eqb, ltb, lit≤}
use lib.IntN.{ℤ}
use lib.Ieee.{Float, nan, inf, fin, up, down, unlike, binary64, of_bits, round, neg, sum, add, sub, mul, div, lt, le, below, fits, is_nan}
use lib.Ieee.Exact.{HasValue}
use lib.Ieee.Fits.{up_pos, down_pos}
use lib.Ieee.Order.{round_mono}
use lib.Ieee.Positive.{positive_of_value, above_of_le, own_value, values_of_le}
use Rattle.vector.specs.declared.Vector.{Vector}
use Rattle.vector.specs.Abs.{abs_of}
use Rattle.vector.specs.Lengths.{zero64}
use Rattle.vector.proofs.Far.{own}
use Rattle.vector.proofs.Order.{lt-through}
use Rattle.vector.proofs.Shares.{digits_apart, above-not_level}
use Rattle.vector.proofs.Zeros.{Within, within, under, Kept, abs_round, add-within, sub_within, mul-within}
use Rattle.path.specs.Tests.{most_coordinate}
use Rattle.mesh_section.specs.declared.Plane.{Plane}
use Rattle.mesh_contour_rule.specs.declared.Side.{Side}
use Rattle.mesh_contour_rule.specs.declared.Side.TheVariants.{Above, Below, On}
use Rattle.mesh_contour_rule.specs.Contour.{height_of, side_of, above, below as below·}
use Rattle.mesh_contour_rule.proofs.Zeros.{zero_found}

-- ---- heights: three products of a coordinate and a difference of two
abbrev pub coordinate : ℕ
coordinate = 2 ^ 20

abbrev pub apart : ℕ
apart = coordinate + coordinate

abbrev term : ℕ
term = coordinate * apart

abbrev pub most : ℕ
most = term + term + term

pub limit : Within coordinate most_coordinate
unfolding of_bits
limit = within _ _ _ (lit≤ tt)

pub apart-kept : Kept apart
unfolding round
apart-kept = within _ _ _ (lit≤ tt)

term_kept : Kept term
unfolding round
term_kept = within _ _ _ (lit≤ tt)

terms_kept : Kept (term + term)
unfolding round
terms_kept = within _ _ _ (lit≤ tt)

most-kept : Kept most
unfolding round
most-kept = within _ _ _ (lit≤ tt)

abbrev pub All : ℕ → Vector → Type 0
All c v = Within c v.x × Within c v.y × Within c v.z

pub height_within : (p : Plane) (v : Vector) → All coordinate p.point → All coordinate p.normal → All coordinate v → Within most (height_of p v)
height_within p v q n w = add-within most-kept (add-within terms_kept (times n.0 w.0 q.0) (times n.1 w.1 q.1)) (times n.2 w.2 q.2)
  where
    times : {a b c : Float} → Within coordinate a → Within coordinate b → Within coordinate c → Within term (mul binary64 a (sub binary64 b c))
    times a b c = mul-within term_kept a (sub_within apart-kept b c)

-- ---- what a side says of the sign of a height
pub data Signed (s : Bool) : Float → Type 0 where
  signed : (m : ℕ) (e : ℤ) → Signed s (fin s (suc m) e)

over_zero : {c : ℕ} {h : Float} → Within c h → T (lt zero64 h) → Signed false h
unfolding of_bits lt
over_zero (within true m e k) l = absurd l
over_zero (within false zero e k) l = absurd (true≢false (sym (zero_found false e) ∙ above-not_level (fin false zero e) l))
over_zero (within false (suc m) e k) l = signed m e

under-zero : {c : ℕ} {h : Float} → Within c h → T (lt zero64 (neg h)) → Signed true h
unfolding of_bits lt neg
under-zero (within false m e k) l = absurd l
under-zero (within true zero e k) l = absurd (true≢false (sym (zero_found false e) ∙ above-not_level (fin false zero e) l))
under-zero (within true (suc m) e k) l = signed m e

below-turns : (s t : Bool) (a b : ℕ) → below (not s) a t b ≡ below (not t) b s a
below-turns false false a b = ap (λ (n : ℕ). ltb 0 n) (add_comm a b)
below-turns false true a b = refl
below-turns true false a b = refl
below-turns true true a b = refl

and_turns : (s t : Bool) → not s && not t ≡ not t && not s
and_turns false false = refl
and_turns false true = refl
and_turns true false = refl
and_turns true true = refl

neg_turns : (x y : Float) → lt (neg x) y ≡ lt (neg y) x
unfolding lt neg
neg_turns nan nan = refl
neg_turns nan (inf t) = refl
neg_turns nan (fin t n d) = refl
neg_turns (inf s) nan = refl
neg_turns (inf s) (inf t) = and_turns s t
neg_turns (inf s) (fin t n d) = refl
neg_turns (fin s m e) nan = refl
neg_turns (fin s m e) (inf t) = refl
neg_turns (fin s m e) (fin t n d) = below-turns s t (m * up e * down d) (n * up d * down e)

module _ (tolerance : Float) (some : T (lt zero64 tolerance)) {c : ℕ} {h : Float} (k : Within c h) where
  -- not below what is above 0
  high : (x : Float) → T (not (is_nan x)) → lt x tolerance ≡ false → T (lt zero64 x)
  high x n e = lt-through zero64 tolerance x some (subst (λ (b : Bool). T (not b)) (sym e) tt) n

  pub above-sign : side_of tolerance h ≡ Above → Signed false h
  unfolding side_of
  above-sign e = over_zero k (high h (a-number k) (told (lt h tolerance) (lt (neg tolerance) h) e))
    where
      a-number : {x : Float} → Within c x → T (not (is_nan x))
      a-number (within s m e l) = unfold is_nan in tt

      told : (x y : Bool) → cond (not x) Above (cond (not y) Below On) ≡ Above → x ≡ false
      told false y e = refl
      told true false e = absurd (true≢false (sym (ap (λ (s : Side). eqb (above s) 1) e)))
      told true true e = absurd (true≢false (sym (ap (λ (s : Side). eqb (above s) 1) e)))

  pub below-sign : side_of tolerance h ≡ Below → Signed true h
  unfolding side_of
  below-sign e = under-zero k (high (neg h) (a-number k) (neg_turns h tolerance ∙ told (lt h tolerance) (lt (neg tolerance) h) e))
    where
      a-number : {x : Float} → Within c x → T (not (is_nan (neg x)))
      a-number (within s m e l) = unfold is_nan neg in tt

      told : (x y : Bool) → cond (not x) Above (cond (not y) Below On) ≡ Below → y ≡ false
      told false y e = absurd (true≢false (sym (ap (λ (s : Side). eqb (below· s) 1) e)))
      told true false e = refl
      told true true e = absurd (true≢false (sym (ap (λ (s : Side). eqb (below· s) 1) e)))

-- ---- the share: the difference is a sum of sizes, and rounding it leaves it no smaller than the first
one_kept : Kept 1
unfolding round
one_kept = within _ _ _ (lit≤ tt)

sizes : (s : Bool) (m n : ℕ) (e d : ℤ) → sub binary64 (fin s m e) (fin (not s) n d) ≡ round binary64 s (m * up e * down d + n * up d * down e) (down e * down d)
unfolding sub neg add sum
sizes true m n e d = refl
sizes false m n e d = refl

no_smaller : (a b p q : ℕ) → a * (p * q) ≤ (a * q + b * p) * p
no_smaller a b p q = omega (arith, add-mul (a * q) (b * p) p, mul_assoc a q p, ap (λ (n : ℕ). a * n) (mul_comm p q))

as_large : (s : Bool) (m n : ℕ) (e d : ℤ) → T (le (round binary64 false (m * up e) (down e)) (abs_of (sub binary64 (fin s m e) (fin (not s) n d))))
as_large s m n e d =
    rw (sizes s m n e d, abs_round s (m * up e * down d + n * up d * down e) (down e * down d))
    (round_mono binary64 (m * up e) (down e) (m * up e * down d + n * up d * down e) (down e * down d) (down_pos e) (mul-pos (down_pos e) (down_pos d)) (no_smaller (m * up e) (n * up d) (down e) (down d)))

-- a number over one that is no smaller in size
divided : {c : ℕ} (s : Bool) (m : ℕ) (e : ℤ) (x : Float) {y : Float} → Within c y → HasValue x false (suc m * up e) (down e) → T (le x (abs_of y)) → Within 1 (div binary64 (fin s (suc m) e) y)
unfolding abs_of
divided s m e x (within t zero d k) v l = absurd (above_of_le x (fin false zero d) (positive_of_value x (suc m * up e) (down e) v (mul-pos (zero-lt-suc m) (up_pos e))) l)
divided s m e x (within t (suc n) d k) v l =
    let p = positive_of_value x (suc m * up e) (down e) v (mul-pos (zero-lt-suc m) (up_pos e)) in
    let o = above_of_le x (fin false (suc n) d) p l in
    let a = suc m * up e * down d in
    let b = suc n * up d * down e in
    let h = values_of_le x (fin false (suc n) d) (suc m * up e) (down e) (suc n * up d) (down d) p o v (own_value (fin false (suc n) d) o) l in
    rw (quotient s t m n e d)
    (under (round binary64 (unlike s t) a b) one_kept (rw (abs_round (unlike s t) a b) (round_mono binary64 a b 1 1 (mul-pos (mul-pos (zero-lt-suc n) (up_pos d)) (down_pos e)) (omega arith) (omega arith))))
  where
    quotient : (s t : Bool) (m n : ℕ) (e d : ℤ) → div binary64 (fin s (suc m) e) (fin t (suc n) d) ≡ round binary64 (unlike s t) (suc m * up e * down d) (suc n * up d * down e)
    quotient s t m n e d = unfold div in rw (digits_apart n)

pub share : {x y : Float} (s : Bool) → Signed s x → Signed (not s) y → T (fits binary64 x) → Within most x → Within most y → Within 1 (div binary64 x (sub binary64 x y))
unfolding fits
share s (signed m e) (signed n d) f i j = divided s m e (round binary64 false (suc m * up e) (down e)) (sub_within twice-kept i j) (own m e f) (as_large s (suc m) (suc n) e d)
  where
    twice-kept : Kept (most + most)
    twice-kept = unfold round in within _ _ _ (lit≤ tt)
