-- Laws of the walk.
use mathlib.Core.Path.{◌≡◌, refl, sym, ap, ◌∙◌}
use mathlib.Core.Bool.{Bool, true, false, cond, true≢false}
use mathlib.Core.List.{List, [], ◌∷◌, ◌++◌}
use Prim.Native.Nat.{ℕ, zero, suc, ◌+◌, ◌-◌, ◌≤◌, ◌<◌}
use native.Mathlib.Omega.{arith}
use lib.ListN.{length, length-append}
use Rattle.vector.specs.declared.Vector.{Vector}
use Rattle.path.specs.Strokes.{gather}
use Rattle.path.proofs.Gathers.{gather-more, gather_none}
use Rattle.path_adaptive.specs.declared.View.{View}
use Rattle.path_adaptive.specs.declared.Shown.{Shown}
use Rattle.path_adaptive.specs.Walk.{most_halvings, shown_of, middle_of, span_ends, Walk, none, one_point, stuck, followed_by, halved, walk, walk_from, stroke_walked}

-- ---- the walk where it ends, at the last depth, and at a halving

module _ (view : View) (a b : Shown) where
  pub walk_ends : (d : ℕ) → span_ends view a b ≡ true → walk d view a b ≡ one_point b.here
  unfolding walk
  walk_ends zero h = rw h
  walk_ends (suc d) h = rw h

  pub walk-stuck : (d : ℕ) → span_ends view a b ≡ false → d ≡ 0 → walk d view a b ≡ stuck
  unfolding walk
  walk-stuck zero h z = rw h
  walk-stuck (suc d) h z = absurd (omega arith)

  pub walk-half : (d : ℕ) (m : Shown) → span_ends view a b ≡ false → (d ≡ 0 → ⊥) → m ≡ middle_of view a b
      → walk d view a b ≡ halved (followed_by (walk (d - 1) view a m) (walk (d - 1) view m b))
  unfolding walk
  walk-half zero m h z f = absurd (z refl)
  walk-half (suc d) m h z f = let k : suc d - 1 ≡ d = omega arith in rw (h, k, f)

-- ---- two walks that come to their ends

-- l and then r are w, with n halvings more
pub record Both (n : ℕ) (l r w : Walk) : Type 0 where
  pub calm : l.deep ≡ false
  pub calm_after : r.deep ≡ false
  pub points_are : w.points ≡ l.points ++ r.points
  pub length_is : length w.points ≡ length l.points + length r.points
  pub halvings_are : w.halvings ≡ n + l.halvings + r.halvings

both_go : (l r : Walk) (x : Bool) → l.deep ≡ x → cond x true r.deep ≡ false → (l.deep ≡ false) × (r.deep ≡ false)
both_go l r true e k = absurd (true≢false k)
both_go l r false e k = (e, k)

pub join-both : (l r w : Walk) → w ≡ followed_by l r → w.deep ≡ false → Both 0 l r w
unfolding followed_by
join-both l r w e h =
    let g = both_go l r l.deep refl (rw e at h) in
    let p : w.points ≡ l.points ++ r.points = rw (e, g.0) in
    let d : w.halvings ≡ l.halvings + r.halvings = rw (e, g.0) in
    record { calm = g.0; calm_after = g.1; points_are = p; length_is = ap length p ∙ length-append l.points r.points; halvings_are = omega arith }

pub half-both : (l r w : Walk) → w ≡ halved (followed_by l r) → w.deep ≡ false → Both 1 l r w
half-both l r w e h =
    let b = join-both l r (followed_by l r) refl (sym (ap (λ (x : Walk). x.deep) e) ∙ h) in
    let p : w.points ≡ (followed_by l r).points = ap (λ (x : Walk). x.points) e in
    let d : w.halvings ≡ 1 + (followed_by l r).halvings = ap (λ (x : Walk). x.halvings) e in
    record {
      calm = b.calm;
      calm_after = b.calm_after;
      points_are = p ∙ b.points_are;
      length_is = ap length p ∙ b.length_is;
      halvings_are = omega (arith, b.halvings_are);
    }

-- ---- the spans over the points from place i up to e, and a stroke

module _ (view : View) (at : ℕ → Vector) (i e : ℕ) where
  pub from_more : (p q : Shown) → i < e → q ≡ shown_of view (at i)
      → walk_from view p (gather at i (e - i)) ≡ followed_by (walk most_halvings view p q) (walk_from view q (gather at (i + 1) (e - (i + 1))))
  unfolding walk_from
  from_more p q h f = rw (gather-more at i e h, f)

  pub from-none : (p : Shown) → e ≤ i → walk_from view p (gather at i (e - i)) ≡ none
  unfolding walk_from
  from-none p h = rw (gather_none at i e h)

  pub stroke_none : e ≤ i → stroke_walked view (gather at i (e - i)) ≡ none
  unfolding stroke_walked
  stroke_none h = rw (gather_none at i e h)

  pub stroke_some : (v : Vector) (p : Shown) → i < e → v ≡ at i → p ≡ shown_of view v
      → stroke_walked view (gather at i (e - i)) ≡ followed_by (one_point v) (walk_from view p (gather at (i + 1) (e - (i + 1))))
  unfolding stroke_walked
  stroke_some v p h f g = rw (gather-more at i e h, g, f)

-- ---- points and halvings

-- where a walk comes to its end, so many points for so many read
abbrev Counted : ℕ → Walk → Type 0
Counted n w = w.deep ≡ false → length w.points ≡ n + w.halvings

count-cond : (n : ℕ) (x : Bool) (l r : Walk) → Counted n l → Counted n r → Counted n (cond x l r)
count-cond n true l r f g = f
count-cond n false l r f g = g

count-half : (l r : Walk) → Counted 1 l → Counted 1 r → Counted 1 (halved (followed_by l r))
count-half l r f g h =
    let b = join-both l r (followed_by l r) refl h in
    let x = f b.calm in
    let y = g b.calm_after in
    omega (arith, b.length_is, b.halvings_are)

pub walk-count : (view : View) (d : ℕ) (a b : Shown) → Counted 1 (walk d view a b)
unfolding walk
walk-count view zero a b = count-cond 1 (span_ends view a b) (one_point b.here) stuck (λ h. refl) (λ h. absurd (true≢false h))
walk-count view (suc d) a b =
    let l = walk d view a (middle_of view a b) in
    let r = walk d view (middle_of view a b) b in
    count-cond 1 (span_ends view a b) (one_point b.here) (halved (followed_by l r)) (λ h. refl)
    (count-half l r (walk-count view d a (middle_of view a b)) (walk-count view d (middle_of view a b) b))

from-count : (view : View) (a : Shown) (vs : List Vector) → Counted (length vs) (walk_from view a vs)
unfolding walk_from
from-count view a [] h = refl
from-count view a (v ∷ vs) h =
    let b = join-both (walk most_halvings view a (shown_of view v)) (walk_from view (shown_of view v) vs) _ refl h in
    let x = walk-count view most_halvings a (shown_of view v) b.calm in
    let y = from-count view (shown_of view v) vs b.calm_after in
    omega (arith, b.length_is, b.halvings_are)

pub stroke_count_lem : (view : View) (s : List Vector) → (stroke_walked view s).deep ≡ false → length (stroke_walked view s).points ≡ length s + (stroke_walked view s).halvings
unfolding stroke_walked
stroke_count_lem view [] h = refl
stroke_count_lem view (v ∷ vs) h =
    let b = join-both (one_point v) (walk_from view (shown_of view v) vs) _ refl h in
    let y = from-count view (shown_of view v) vs b.calm_after in
    omega (arith, b.length_is, b.halvings_are)
