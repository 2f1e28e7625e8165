-- Where a face gives a segment, two places are met going round it: the first and the last.
use mathlib.Core.Path.{◌≡◌, refl, sym, ◌∙◌}
use mathlib.Core.Bool.{Bool, true, false, cond, true≢false}
use mathlib.Core.List.{List, [], ◌∷◌, ◌++◌, map}
use lib.Dec.{eqb}
use Rattle.vector.specs.declared.Vector.{Vector}
use Rattle.mesh_contour_rule.specs.declared.Side.{Side}
use Rattle.mesh_contour_rule.specs.declared.Side.TheVariants.{Above, Below, On}
use Rattle.mesh_contour_rule.specs.declared.Corner.{Corner}
use Rattle.mesh_contour_rule.specs.Contour.{on, parts, crossing, at_corner, on_side, met, gives, gives_by, unsigned_point, segment_by}
use Rattle.mesh_contour_rule.specs.InnerMet.{first_met, last_met}

-- ---- by the sides alone: the corners p, q, u and the crossings x, y, z of the sides after them
abbrev corner : Side → Vector → List Vector
corner s p = cond (eqb (on s) 1) (p ∷ []) []

abbrev between : Side → Side → Vector → List Vector
between s t x = cond (parts s t) (x ∷ []) []

abbrev pub around : Side → Side → Side → Vector → Vector → Vector → Vector → Vector → Vector → List Vector
around r s t p x q y u z = corner r p ++ between r s x ++ corner s q ++ between s t y ++ corner t u ++ between t r z

abbrev pub segment_in : Side → Side → Side → Vector → Vector → Vector → Vector → Vector → Vector → List Vector
segment_in r s t p x q y u z = cond (gives_by r s t) (map unsigned_point (around r s t p x q y u z)) []

pub by_sides : (a b c : Corner) → segment_by a b c ≡ segment_in a.side b.side c.side a.at (crossing a b) b.at (crossing b c) c.at (crossing c a)
unfolding segment_by met at_corner on_side
by_sides a b c = refl

two : (r s t : Side) (p x q y u z : Vector) → gives_by r s t ≡ true
    → around r s t p x q y u z
    ≡ cond (eqb (on r) 1) p (cond (parts r s) x (cond (eqb (on s) 1) q y))
    ∷ cond (parts t r) z (cond (eqb (on t) 1) u (cond (parts s t) y q)) ∷ []
unfolding gives
two Above Above Above p x q y u z h = absurd (true≢false (sym h))
two Above Above Below p x q y u z h = refl
two Above Above On p x q y u z h = absurd (true≢false (sym h))
two Above Below Above p x q y u z h = refl
two Above Below Below p x q y u z h = refl
two Above Below On p x q y u z h = refl
two Above On Above p x q y u z h = absurd (true≢false (sym h))
two Above On Below p x q y u z h = refl
two Above On On p x q y u z h = refl
two Below Above Above p x q y u z h = refl
two Below Above Below p x q y u z h = refl
two Below Above On p x q y u z h = refl
two Below Below Above p x q y u z h = refl
two Below Below Below p x q y u z h = absurd (true≢false (sym h))
two Below Below On p x q y u z h = absurd (true≢false (sym h))
two Below On Above p x q y u z h = refl
two Below On Below p x q y u z h = absurd (true≢false (sym h))
two Below On On p x q y u z h = absurd (true≢false (sym h))
two On Above Above p x q y u z h = absurd (true≢false (sym h))
two On Above Below p x q y u z h = refl
two On Above On p x q y u z h = refl
two On Below Above p x q y u z h = refl
two On Below Below p x q y u z h = absurd (true≢false (sym h))
two On Below On p x q y u z h = absurd (true≢false (sym h))
two On On Above p x q y u z h = refl
two On On Below p x q y u z h = absurd (true≢false (sym h))
two On On On p x q y u z h = absurd (true≢false (sym h))

pub met-two : (a b c : Corner) → gives_by a.side b.side c.side ≡ true → met a b c ≡ first_met a b c ∷ last_met a b c ∷ []
unfolding met at_corner on_side first_met last_met
met-two a b c h = two a.side b.side c.side a.at (crossing a b) b.at (crossing b c) c.at (crossing c a) h

-- ---- what the code answers: the first place, the last place, and the segment
module _ (a b c : Corner) {g : Bool} (tested : g ≡ gives_by a.side b.side c.side) where
  pub cuts_none : g ≡ false → [] ≡ segment_by a b c
  unfolding segment_by
  cuts_none h = rw (sym tested ∙ h)

  pub cuts : {f l p q : Vector} → g ≡ true → f ≡ first_met a b c → p ≡ unsigned_point f → l ≡ last_met a b c → q ≡ unsigned_point l → p ∷ q ∷ [] ≡ segment_by a b c
  unfolding segment_by
  cuts h ef ep el eq = let y = sym tested ∙ h in rw (y, met-two a b c y, ep, eq, ef, el)
