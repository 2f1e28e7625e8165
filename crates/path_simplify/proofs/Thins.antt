-- Laws of leaving points out of one stroke.
use mathlib.Core.Path.{◌≡◌, refl, sym, ap, ◌∙◌}
use mathlib.Core.Bool.{Bool, true, false, cond, ◌&&◌, true≢false}
use Prim.Native.Nat.{ℕ, zero, suc, ◌+◌, ◌-◌, ◌*◌, ◌≤◌, ◌<◌}
use native.Mathlib.Omega.{arith}
use native.Mathlib.Nat.{mul-add, suc-mul}
use lib.ListN.{length, length-append}
use lib.Dec.{ltb}
use lib.Ieee.{Float, lt}
use borrow.Author.Tests.{ltb-true}
use Rattle.vector.specs.declared.Vector.{Vector}
use Rattle.vector.specs.Lengths.{zero64, segment_distance_of}
use Rattle.path_simplify.specs.Simplify.{Far, farther_of, far_from, farthest, splits_at, Thin, nothing, first, parts, thin}

-- ---- the scan

module _ (at : ℕ → Vector) (a b : Vector) (best : Far) (i hi : ℕ) where
  pub far_turn : i < hi → {f : Far} (d : Float) → d ≡ segment_distance_of (at i) a b → f ≡ farther_of best i d
      → far_from at a b f (i + 1) (hi - (i + 1)) ≡ far_from at a b best i (hi - i)
  unfolding far_from
  far_turn h d g e = let n : hi - i ≡ suc (hi - (i + 1)) = omega arith in rw (n, e, g)

  pub far_end : hi ≤ i → far_from at a b best i (hi - i) ≡ best
  unfolding far_from
  far_end h = let e : hi - i ≡ 0 = omega arith in rw e

-- the farthest lies from lo on and before hi
farther_in : (lo i : ℕ) (best : Far) (d : Float) → lo ≤ best.at → best.at < i → lo ≤ i → (lo ≤ (farther_of best i d).at) × ((farther_of best i d).at < i + 1)
unfolding farther_of
farther_in lo i best d h k l = go (lt best.far d)
  where
    go : (x : Bool) → (lo ≤ (cond x (record { at = i; far = d }) best).at) × ((cond x (record { at = i; far = d }) best).at < i + 1)
    go true = omega arith
    go false = omega arith

from_in : (at : ℕ → Vector) (a b : Vector) (lo i n : ℕ) (best : Far) → lo ≤ best.at → best.at < i → lo ≤ i
    → (lo ≤ (far_from at a b best i n).at) × ((far_from at a b best i n).at < i + n)
unfolding far_from
from_in at a b lo i zero best h k l = omega arith
from_in at a b lo i (suc n) best h k l =
    let d = segment_distance_of (at i) a b in
    let f = farther_in lo i best d h k l in
    let r = from_in at a b lo (i + 1) n (farther_of best i d) f.0 f.1 (omega arith) in
    omega arith

far_in : (at : ℕ → Vector) (lo hi : ℕ) → lo < hi → (farthest at lo hi).at < hi
unfolding farthest
far_in at lo hi h =
    let r = from_in at (at lo) (at hi) lo (lo + 1) (hi - (lo + 1)) (record { at = lo; far = zero64 }) (omega arith) (omega arith) (omega arith) in
    omega arith

pub splits_in : (f : Far) (lo : ℕ) (t : Float) → splits_at f lo t ≡ true → lo < f.at
unfolding splits_at
splits_in f lo t e = go (lt t f.far) (ltb lo f.at) refl e
  where
    go : (x y : Bool) → ltb lo f.at ≡ y → x && y ≡ true → lo < f.at
    go false y e h = absurd (true≢false (sym h))
    go true false e h = absurd (true≢false (sym h))
    go true true e h = ltb-true lo f.at e

-- ---- the recursion

same_cond : {l l' : Thin} (r : Thin) (x : Bool) → (x ≡ true → l ≡ l') → cond x l r ≡ cond x l' r
same_cond r false f = refl
same_cond r true f = f refl

-- more than enough is as good as enough
fuel : (t : Float) (at : ℕ → Vector) (n k lo hi : ℕ) → lo < hi → hi - lo ≤ n → hi - lo ≤ k → thin n t at lo hi ≡ thin k t at lo hi
unfolding thin
fuel t at zero k lo hi h a b = absurd (omega arith)
fuel t at (suc n) zero lo hi h a b = absurd (omega arith)
fuel t at (suc n) (suc k) lo hi h a b =
    let i = far_in at lo hi h in
    let m = (farthest at lo hi).at in
    same_cond (first at lo hi) (splits_at (farthest at lo hi) lo t)
    (λ e. let l = splits_in (farthest at lo hi) lo t e in
    rw (fuel t at n k lo m l (omega arith) (omega arith), fuel t at n k m hi i (omega arith) (omega arith)))

pub thin-none : (t : Float) (at : ℕ → Vector) (lo hi : ℕ) → hi ≤ lo → thin (hi - lo) t at lo hi ≡ nothing
unfolding thin
thin-none t at lo hi h = let e : hi - lo ≡ 0 = omega arith in rw e

module _ (t : Float) (at : ℕ → Vector) (lo hi : ℕ) (h : lo < hi) (f : Far) (e : f ≡ farthest at lo hi) where
  open_one_lem : thin (hi - lo) t at lo hi ≡ cond (splits_at f lo t) (parts (hi - (lo + 1)) (thin (hi - lo - 1) t at lo f.at) (thin (hi - lo - 1) t at f.at hi)) (first at lo hi)
  unfolding thin
  open_one_lem = let k : hi - lo ≡ suc (hi - lo - 1) = omega arith in ap (λ (n : ℕ). thin n t at lo hi) k ∙ rw e

  pub thin-split : splits_at f lo t ≡ true
      → (lo < f.at) × (f.at < hi) × (thin (hi - lo) t at lo hi ≡ parts (hi - (lo + 1)) (thin (f.at - lo) t at lo f.at) (thin (hi - f.at) t at f.at hi))
  thin-split a =
      let b = splits_in f lo t a in
      let i : f.at < hi = rw e (far_in at lo hi h) in (
        b,
        i,
        open_one_lem
            ∙ rw (a, fuel t at (hi - lo - 1) (f.at - lo) lo f.at b (omega arith) (omega arith), fuel t at (hi - lo - 1) (hi - f.at) f.at hi i (omega arith) (omega arith)),
      )

  pub thin-first : splits_at f lo t ≡ false → thin (hi - lo) t at lo hi ≡ first at lo hi
  thin-first a = open_one_lem ∙ rw a

-- ---- what a part, and what two parts, come to

module _ (w l r : Thin) (look : ℕ) (e : w ≡ parts look l r) where
  pub parts-length : length w.points ≡ length l.points + length r.points
  unfolding parts
  parts-length = rw e (length-append l.points r.points)

  pub parts-measured : w.measured ≡ look + l.measured + r.measured
  unfolding parts
  parts-measured = rw e

module _ (at : ℕ → Vector) (lo hi : ℕ) (w : Thin) (e : w ≡ first at lo hi) where
  pub first-length : length w.points ≡ 1
  unfolding first
  first-length = rw e

  pub first-measured : w.measured ≡ hi - (lo + 1)
  unfolding first
  first-measured = rw e

-- ---- bounds: no more points than there are, and n distances a point at most

pub record Short (n d : ℕ) (w : Thin) : Type 0 where
  pub few : length w.points ≤ d
  pub quick : w.measured ≤ n * d

short_parts : (n lo m hi : ℕ) (l r : Thin) → lo < m → m < hi → Short n (m - lo) l → Short n (hi - m) r → Short (suc n) (hi - lo) (parts (hi - (lo + 1)) l r)
unfolding parts
short_parts n lo m hi l r h k a b =
    let d : m - lo + (hi - m) ≡ hi - lo = omega arith in
    let e : n * (m - lo) + n * (hi - m) ≡ n * (hi - lo) = sym (mul-add n (m - lo) (hi - m)) ∙ ap (λ (x : ℕ). n * x) d in
    record { few = omega (arith, length-append l.points r.points); quick = omega (arith, suc-mul n (hi - lo)) }

short_first : (n : ℕ) (at : ℕ → Vector) (lo hi : ℕ) → lo < hi → Short (suc n) (hi - lo) (first at lo hi)
unfolding first
short_first n at lo hi h = record { few = omega arith; quick = omega (arith, suc-mul n (hi - lo)) }

short_cond : {n d : ℕ} {l r : Thin} (x : Bool) → (x ≡ true → Short n d l) → Short n d r → Short n d (cond x l r)
short_cond false f g = g
short_cond true f g = f refl

pub short : (t : Float) (at : ℕ → Vector) (n lo hi : ℕ) → lo < hi → hi - lo ≤ n → Short n (hi - lo) (thin n t at lo hi)
unfolding thin
short t at zero lo hi h a = absurd (omega arith)
short t at (suc n) lo hi h a =
    let m = (farthest at lo hi).at in
    let i = far_in at lo hi h in
    short_cond (splits_at (farthest at lo hi) lo t)
    (λ e. let l = splits_in (farthest at lo hi) lo t e in
    short_parts n lo m hi _ _ l i (short t at n lo m l (omega arith)) (short t at n m hi i (omega arith)))
    (short_first n at lo hi h)
