-- Every point of every segment of a mesh: what holds of the segment of each face holds of all that are kept.
use mathlib.Core.Path.{◌≡◌}
use mathlib.Core.Bool.{Bool, true, false, cond, ◌&&◌}
use mathlib.Core.List.{List, ◌∷◌}
use Prim.Native.Nat.{ℕ, zero, suc, ◌+◌, ◌*◌, ◌/◌, ◌<◌}
use native.Mathlib.Omega.{arith}
use lib.Dec.{eqb}
use lib.ListN.{length}
use lib.Ieee.{Float}
use lib.Ieee.Scale.{finite}
use Rattle.refusal.specs.Each.{Each}
use Rattle.vector.specs.declared.Vector.{Vector}
use Rattle.path.specs.Tests.{coordinates_good, tolerance_good}
use Rattle.path.proofs.Tests.{both}
use Rattle.mesh.specs.Meshes.{corner_at, vector_good, all_below}
use Rattle.mesh.proofs.Tests.{all_reach}
use Rattle.mesh.proofs.Limits.{corner_good_lem}
use Rattle.mesh_section.specs.declared.Plane.{Plane}
use Rattle.mesh_section.specs.Call.{numbers_good}
use Rattle.mesh_contour_rule.specs.declared.Corner.{Corner}
use Rattle.mesh_contour_rule.specs.Contour.{corner_of, segment_of, segments_from, segments_of}
use Rattle.mesh_contour_rule.specs.Numbers.{Coordinates, Plain}
use Rattle.mesh_contour_rule.proofs.Zeros.{no_minus_zeros}
use Rattle.mesh_contour_rule.proofs.Finite.{finite_points}

pub each-segment : (at : ℕ → Corner) (P : List Vector → Type 0) (f n : ℕ) → ((g : ℕ) → g < f + n → P (segment_of at g)) → Each P (segments_from at f n)
unfolding segments_from
each-segment at P f zero h = tt
each-segment at P f (suc n) h = go (eqb (length (segment_of at f)) 0) (h f (omega arith)) (each-segment at P (f + 1) n (λ g l. h g (omega arith)))
  where
    go : (b : Bool) → P (segment_of at f) → Each P (segments_from at (f + 1) n) → Each P (cond b (segments_from at (f + 1) n) (segment_of at f ∷ segments_from at (f + 1) n))
    go true p q = q
    go false p q = (p, q)

module _ (vs : List Float) (is : List ℕ) (p : Plane) (tolerance : Float) where
  face-finite : numbers_good vs p tolerance ≡ true → all_below (length vs / 3) is ≡ true → (f : ℕ) → f < length is / 3 → Each (Coordinates finite) (segment_of (corner_of p tolerance vs is) f)
  unfolding numbers_good segment_of
  face-finite g h f l =
      let a = both (coordinates_good vs && vector_good p.point && vector_good p.normal) (tolerance_good tolerance) g in
      let b = both (coordinates_good vs && vector_good p.point) (vector_good p.normal) a.0 in
      let c = both (coordinates_good vs) (vector_good p.point) b.0 in
      let good : (k : ℕ) → k < length is / 3 * 3 → vector_good (corner_at vs is k) ≡ true = λ k m. corner_good_lem vs is (length is / 3) k c.0 (all_reach (length vs / 3) is h) m in
      finite_points p tolerance (record { point_good = c.1; normal_good = b.1; tolerance_good = a.1 }) _ _ _ _ _ _ (good (f * 3) (omega arith)) (good (f * 3 + 1) (omega arith)) (good (f * 3 + 2) (omega arith))

  pub plain : Plain vs is p tolerance
  unfolding segments_of segment_of
  plain = record {
    no_minus_zeros = each-segment (corner_of p tolerance vs is) _ 0 (length is / 3) (λ f l. no_minus_zeros _ _ _);
    all_finite = λ g h. each-segment (corner_of p tolerance vs is) _ 0 (length is / 3) (λ f l. face-finite g h f (omega arith));
  }
