-- What a face gives, sentence by sentence.
use mathlib.Core.Path.{◌≡◌, refl, sym, ◌∙◌}
use mathlib.Core.Bool.{true, false, true≢false, ◌&&◌}
use mathlib.Core.List.{List, []}
use Prim.Native.Nat.{◌+◌}
use lib.Dec.{eqb}
use Rattle.vector.specs.declared.Vector.{Vector}
use Rattle.mesh_contour_rule.specs.declared.Side.{Side}
use Rattle.mesh_contour_rule.specs.declared.Side.TheVariants.{Above, Below, On}
use Rattle.mesh_contour_rule.specs.declared.Corner.{Corner}
use Rattle.mesh_contour_rule.specs.Contour.{above, on, parts, crossing, gives, segment_by}
use Rattle.mesh_contour_rule.specs.Faces.{segment, Faces}
use Rattle.mesh_contour_rule.proofs.Counts.{gives-where}
use Rattle.mesh_contour_rule.proofs.Around.{segment_in, by_sides}

-- ---- of two corners that the plane parts one is above, the other below
pub parted : (P : Side → Side → Type 0) → P Above Below → P Below Above → (s t : Side) → parts s t ≡ true → P s t
parted P f g Above Above h = absurd (true≢false (sym h))
parted P f g Above Below h = f
parted P f g Above On h = absurd (true≢false (sym h))
parted P f g Below Above h = g
parted P f g Below Below h = absurd (true≢false (sym h))
parted P f g Below On h = absurd (true≢false (sym h))
parted P f g On Above h = absurd (true≢false (sym h))
parted P f g On Below h = absurd (true≢false (sym h))
parted P f g On On h = absurd (true≢false (sym h))

-- the third side where the first two are known
beside-above : (P : Side → Type 0) → P Below → (t : Side) → parts t Above ≡ true → P t
beside-above P f Above h = absurd (true≢false (sym h))
beside-above P f Below h = f
beside-above P f On h = absurd (true≢false (sym h))

beside-below : (P : Side → Type 0) → P Above → (t : Side) → parts t Below ≡ true → P t
beside-below P f Above h = f
beside-below P f Below h = absurd (true≢false (sym h))
beside-below P f On h = absurd (true≢false (sym h))

pub turned : (s t : Side) → parts s t ≡ true → parts t s ≡ true
turned s t h = parted (λ s t. parts t s ≡ true) refl refl s t h

-- ---- each sentence by the sides r, s, t, the corners p, q, u and the crossings x, y, z of the sides after them
module _ (p x q y u z : Vector) where
  abbrev given : Side → Side → Side → List Vector
  given r s t = segment_in r s t p x q y u z

  first_on : (r s t : Side) → r ≡ On → parts s t ≡ true → given r s t ≡ segment p y
  unfolding gives
  first_on r s t e h = rw e (parted (λ s t. given On s t ≡ segment p y) refl refl s t h)

  second_on : (r s t : Side) → s ≡ On → parts t r ≡ true → given r s t ≡ segment q z
  unfolding gives
  second_on r s t e h = rw e (parted (λ t r. given r On t ≡ segment q z) refl refl t r h)

  third_on : (r s t : Side) → t ≡ On → parts r s ≡ true → given r s t ≡ segment x u
  unfolding gives
  third_on r s t e h = rw e (parted (λ r s. given r s On ≡ segment x u) refl refl r s h)

  first_alone : (r s t : Side) → parts r s ≡ true → parts t r ≡ true → given r s t ≡ segment x z
  unfolding gives
  first_alone r s t h =
      parted (λ r s. parts t r ≡ true → given r s t ≡ segment x z)
      (λ k. beside-above (λ t. given Above Below t ≡ segment x z) refl t k) (λ k. beside-below (λ t. given Below Above t ≡ segment x z) refl t k) r s h

  second_alone : (r s t : Side) → parts r s ≡ true → parts s t ≡ true → given r s t ≡ segment x y
  unfolding gives
  second_alone r s t h k =
      parted (λ r s. parts t s ≡ true → given r s t ≡ segment x y)
      (λ k. beside-below (λ t. given Above Below t ≡ segment x y) refl t k) (λ k. beside-above (λ t. given Below Above t ≡ segment x y) refl t k) r s h (turned s t k)

  third_alone : (r s t : Side) → parts s t ≡ true → parts t r ≡ true → given r s t ≡ segment y z
  unfolding gives
  third_alone r s t h k =
      parted (λ s t. parts r t ≡ true → given r s t ≡ segment y z)
      (λ k. beside-below (λ r. given r Above Below ≡ segment y z) refl r k) (λ k. beside-above (λ r. given r Below Above ≡ segment y z) refl r k) s t h (turned t r k)

  on-12 : (r s t : Side) → r ≡ On → s ≡ On → t ≡ Above → given r s t ≡ segment p q
  unfolding gives
  on-12 r s t e f g = rw (e, f, g)

  on-23 : (r s t : Side) → r ≡ Above → s ≡ On → t ≡ On → given r s t ≡ segment q u
  unfolding gives
  on-23 r s t e f g = rw (e, f, g)

  on-31 : (r s t : Side) → r ≡ On → s ≡ Above → t ≡ On → given r s t ≡ segment p u
  unfolding gives
  on-31 r s t e f g = rw (e, f, g)

-- ---- nothing
nothing : (a b c : Corner) → parts a.side b.side ≡ false → parts b.side c.side ≡ false → parts c.side a.side ≡ false
    → eqb (above a.side + above b.side + above c.side) 1 && eqb (on a.side + on b.side + on c.side) 2 ≡ false
    → segment_by a b c ≡ []
unfolding segment_by
nothing a b c e f g h = rw (gives-where a.side b.side c.side, e, f, g, h)

pub faces : (a b c : Corner) → Faces a b c
faces a b c = record {
  through_a = λ e f. by_sides a b c ∙ first_on a.at (crossing a b) b.at (crossing b c) c.at (crossing c a) a.side b.side c.side e f;
  through_b = λ e f. by_sides a b c ∙ second_on a.at (crossing a b) b.at (crossing b c) c.at (crossing c a) a.side b.side c.side e f;
  through_c = λ e f. by_sides a b c ∙ third_on a.at (crossing a b) b.at (crossing b c) c.at (crossing c a) a.side b.side c.side e f;
  splits_a = λ e f. by_sides a b c ∙ first_alone a.at (crossing a b) b.at (crossing b c) c.at (crossing c a) a.side b.side c.side e f;
  splits_b = λ e f. by_sides a b c ∙ second_alone a.at (crossing a b) b.at (crossing b c) c.at (crossing c a) a.side b.side c.side e f;
  splits_c = λ e f. by_sides a b c ∙ third_alone a.at (crossing a b) b.at (crossing b c) c.at (crossing c a) a.side b.side c.side e f;
  along_ab = λ e f g. by_sides a b c ∙ on-12 a.at (crossing a b) b.at (crossing b c) c.at (crossing c a) a.side b.side c.side e f g;
  along_bc = λ e f g. by_sides a b c ∙ on-23 a.at (crossing a b) b.at (crossing b c) c.at (crossing c a) a.side b.side c.side e f g;
  along_ca = λ e f g. by_sides a b c ∙ on-31 a.at (crossing a b) b.at (crossing b c) c.at (crossing c a) a.side b.side c.side e f g;
  others = nothing a b c;
}
