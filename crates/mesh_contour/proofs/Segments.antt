-- The segments of faces, two points each, put into a list one after the other.
use mathlib.Core.Path.{◌≡◌, refl, sym, ap, ◌∙◌}
use mathlib.Core.Bool.{Bool, true, false, cond}
use mathlib.Core.List.{List, [], ◌∷◌, ◌++◌, map}
use Prim.Native.Nat.{ℕ, zero, suc, ◌+◌, ◌-◌, ◌*◌, ◌≤◌, ◌<◌}
use native.Mathlib.Omega.{arith}
use lib.ListN.{length}
use lib.Dec.{eqb}
use lib.Ieee.{Float}
use Rattle.vector.specs.declared.Vector.{Vector}
use Rattle.path.specs.Laid.{joined}
use Rattle.path.specs.InnerPushes.{put_point, put_points}
use Rattle.path.proofs.Points.{points_lie}
use Rattle.mesh_contour_rule.specs.declared.Corner.{Corner}
use Rattle.mesh_section.specs.Section.{cut_stroke}
use Rattle.std.specs.Prelude.{Option, Some, None}
use Rattle.mesh_contour_rule.specs.Contour.{met, gives_by, unsigned_point, segment_by, segment_of, segments_from}
use Rattle.mesh_contour_rule.specs.InnerMet.{first_met, last_met}
use Rattle.mesh_contour_rule.proofs.Around.{met-two}

-- ---- what the code puts

pub face-cut : (at : ℕ → Corner) (f : ℕ) {s : List Vector} {a b c : Corner} → s ≡ segment_by a b c
    → c ≡ at (f * 3 + 2) → b ≡ at (f * 3 + 1) → a ≡ at (f * 3) → s ≡ segment_of at f
unfolding segment_of
face-cut at f e z y x = rw (← z, ← y, ← x) e

pub stored : (l l₁ l₂ : List Float) (k : ℕ) (c : Option (Vector × Vector)) (v w : Vector) → c ≡ Some (v, w) → l₁ ≡ put_point l (2 * k) v → l₂ ≡ put_point l₁ (2 * k + 1) w
    → (l₂ ≡ put_points l (2 * k) (cut_stroke c)) × (2 * (k + 1) ≡ 2 * k + length (cut_stroke c)) × (k + 1 ≤ k + 1)
unfolding put_points
stored l l₁ l₂ k c v w e e₁ e₂ = rw e (rw (← e₁, ← e₂), omega arith, omega arith)

pub unstored : (l : List Float) (k : ℕ) (c : Option (Vector × Vector)) → c ≡ None → (l ≡ put_points l (2 * k) (cut_stroke c)) × (2 * k ≡ 2 * k + length (cut_stroke c)) × (k ≤ k + 1)
unfolding put_points
unstored l k c e = rw e (refl, omega arith, omega arith)

-- ---- a face gives nothing or two points

pub data Two : List Vector → Type 0 where
  none : Two []
  two : (p q : Vector) → Two (p ∷ q ∷ [])

two-if : (g : Bool) (m : List Vector) (p q : Vector) → (g ≡ true → m ≡ p ∷ q ∷ []) → Two (cond g (map unsigned_point m) [])
two-if true m p q h = rw (h refl) (two _ _)
two-if false m p q h = none

segment-two : (a b c : Corner) → Two (segment_by a b c)
unfolding segment_by
segment-two a b c = two-if (gives_by a.side b.side c.side) (met a b c) (first_met a b c) (last_met a b c) (met-two a b c)

-- before the segments of the other faces
abbrev after : List Vector → List (List Vector) → List (List Vector)
after s rest = cond (eqb (length s) 0) rest (s ∷ rest)

points_after : {s : List Vector} (rest : List (List Vector)) → Two s → joined (after s rest) ≡ s ++ joined rest
unfolding joined
points_after rest none = refl
points_after rest (two p q) = refl

count-after : {s : List Vector} (rest : List (List Vector)) → Two s → 2 * length (after s rest) ≡ length s + 2 * length rest
count-after rest none = omega arith
count-after rest (two p q) = omega arith

module _ (at : ℕ → Corner) where
  face-two : (f : ℕ) → Two (segment_of at f)
  unfolding segment_of
  face-two f = segment-two (at (f * 3)) (at (f * 3 + 1)) (at (f * 3 + 2))

  faces_more : (f n : ℕ) → f < n → segments_from at f (n - f) ≡ after (segment_of at f) (segments_from at (f + 1) (n - (f + 1)))
  unfolding segments_from
  faces_more f n h = let e : n - f ≡ suc (n - (f + 1)) = omega arith in rw e

  -- a turn: what is still to be put from here, and how many there will be
  pub put-turn : (f n k r : ℕ) (l l₁ : List Float) (s : List Vector) → f < n → s ≡ segment_of at f → l₁ ≡ put_points l (2 * k) s → 2 * r ≡ 2 * k + length s
      → (put_points l₁ (2 * r) (joined (segments_from at (f + 1) (n - (f + 1)))) ≡ put_points l (2 * k) (joined (segments_from at f (n - f))))
      × (r + length (segments_from at (f + 1) (n - (f + 1))) ≡ k + length (segments_from at f (n - f)))
  put-turn f n k r l l₁ s h e p q =
      let rest = segments_from at (f + 1) (n - (f + 1)) in
      let t : Two s = rw e (face-two f) in
      let m : segments_from at f (n - f) ≡ after s rest = faces_more f n h ∙ rw e in
      let j = count-after rest t in
      rw m (rw (p, q) (points_lie.more l (2 * k) s (joined rest)) ∙ ap (put_points l (2 * k)) (sym (points_after rest t)), omega arith)

  -- the end: nothing is left
  pub put-end : (f n k : ℕ) (l : List Float) → n ≤ f → (put_points l (2 * k) (joined (segments_from at f (n - f))) ≡ l) × (k + length (segments_from at f (n - f)) ≡ k)
  unfolding segments_from joined put_points
  put-end f n k l h = let e : n - f ≡ 0 = omega arith in rw e (refl, omega arith)

  few : (b : Bool) (s : List Vector) (rest : List (List Vector)) → length (cond b rest (s ∷ rest)) ≤ 1 + length rest
  few true s rest = omega arith
  few false s rest = omega arith

  pub at_most : (f n : ℕ) → length (segments_from at f n) ≤ n
  unfolding segments_from
  at_most f zero = omega arith
  at_most f (suc n) = omega (arith, few (eqb (length (segment_of at f)) 0) (segment_of at f) (segments_from at (f + 1) n), at_most (f + 1) n)

-- ---- all have two points
pub data Pairs : List (List Vector) → Type 0 where
  no_more : Pairs []
  more : (p q : Vector) {ss : List (List Vector)} → Pairs ss → Pairs ((p ∷ q ∷ []) ∷ ss)

pairs_after : {s : List Vector} {rest : List (List Vector)} → Two s → Pairs rest → Pairs (after s rest)
pairs_after none r = r
pairs_after (two p q) r = more p q r

pub all_pairs_lem : (at : ℕ → Corner) (f n : ℕ) → Pairs (segments_from at f n)
unfolding segments_from
all_pairs_lem at f zero = no_more
all_pairs_lem at f (suc n) = pairs_after (face-two at f) (all_pairs_lem at (f + 1) n)
