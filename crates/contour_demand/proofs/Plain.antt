-- The points of the strokes that an accepted `contour` leaves are finite and have no -0, since those of the segments are.
use Rattle.std.specs.Prelude.{Ok}
use mathlib.Core.Path.{◌≡◌, subst}
use mathlib.Core.Bool.{true, ◌&&◌}
use mathlib.Core.List.{List}
use Prim.Native.Nat.{ℕ, ◌/◌}
use lib.ListN.{length}
use lib.Dec.{T}
use lib.Ieee.{Float, binary64, fits}
use lib.Ieee.Fits.{and_i}
use lib.Ieee.Scale.{finite}
use Rattle.refusal.specs.Each.{Each}
use Rattle.refusal.specs.Outcome.{leaves}
use Rattle.refusal.proofs.Outcomes.{was_accepted}
use Rattle.vector.specs.declared.Vector.{Vector}
use Rattle.vector.specs.Vectors.{equal_of}
use Rattle.path.proofs.Tests.{passed}
use Rattle.path_splice_rule.specs.Splice.{splice}
use Rattle.path_classes.specs.Classes.{same_point}
use Rattle.path_segments.specs.Join.{origin, join_of}
use Rattle.mesh.specs.Meshes.{all_below}
use Rattle.mesh_section.specs.declared.Plane.{Plane}
use Rattle.mesh_section.specs.Call.{numbers_good}
use Rattle.mesh_contour_rule.specs.Contour.{segments_of}
use Rattle.mesh_contour_rule.specs.Numbers.{no_minus_zero, Coordinates}
use Rattle.mesh_contour_rule.proofs.Plains.{plain}
use Rattle.path.specs.Call.{place, placed_said}
use Rattle.mesh_contour.specs.Contour.{contour_of}
use Rattle.mesh_contour.specs.Call.{Lent, verdict_of, contour_left}
use Rattle.contour_demand.specs.Demand3.{strokes_written}
use Rattle.contour_demand.specs.Points.{plain_number, Doubles, PlainPoints, PlainContour}
use Rattle.contour_demand.proofs.Theorem.{contour_laid}
use Rattle.contour_demand.proofs.Equal.{same-equal}
use Rattle.contour_demand.proofs.Kept.{each-zip, each-spliced}
use Rattle.contour_demand.proofs.Fitting.{segments_fit}

one_number : (x : Float) → T (fits binary64 x) → T (finite x) → T (no_minus_zero x) → T (plain_number x)
one_number x a b c = and_i (fits binary64 x && finite x) (no_minus_zero x) (and_i (fits binary64 x) (finite x) a b) c

one-point : (v : Vector) → Coordinates (fits binary64) v → Coordinates finite v × Coordinates no_minus_zero v → Coordinates plain_number v
one-point v a b = (one_number v.x a.0 b.0.0 b.1.0, one_number v.y a.1 b.0.1 b.1.1, one_number v.z a.2 b.0.2 b.1.2)

-- points that pass all three tests are the same where they are equal
plain-points : (vs : List Float) (ss : List (List Vector)) → Each (Each (Coordinates finite)) ss → Each (Each (Coordinates no_minus_zero)) ss → (Doubles vs → Each (Each (Coordinates (fits binary64))) ss) → PlainPoints vs ss
plain-points vs ss f z d = record { all_finite = f; no_minus_zeros = z; meet = λ h. meets (all_plain (d h)) }
  where
    all_plain : Each (Each (Coordinates (fits binary64))) ss → Each (Each (Coordinates plain_number)) ss
    all_plain h = each-zip (λ s a b. each-zip one-point s a b) ss h (each-zip (λ s a b. each-zip (λ v x y. (x, y)) s a b) ss f z)

    meets : Each (Each (Coordinates plain_number)) ss → Each (Each (λ a. Each (Each (λ b. same_point a b ≡ equal_of a b)) ss)) ss
    meets h = each-zip (λ s p q. each-zip (λ a x y. each-zip (λ t u w. each-zip (λ b z o. same-equal.points a b x z) t u w) ss h h) s p q) ss h h

module _ (vs : List Float) (is : List ℕ) (plane : Plane) (tolerance : Float) where
  tested : (words numbers room starts : ℕ) → verdict_of vs is plane tolerance words numbers room starts ≡ (Ok tt) → (all_below (length vs / 3) is ≡ true) × (numbers_good vs plane tolerance ≡ true)
  unfolding verdict_of
  tested words numbers room starts e =
      let a = passed _ _ _ (passed _ _ _ (passed _ _ _ e).1).1 in
      (a.0, (passed _ _ _ a.1).0)

  both_plain : all_below (length vs / 3) is ≡ true → numbers_good vs plane tolerance ≡ true → PlainContour vs is plane tolerance (contour_of vs is plane tolerance)
  unfolding contour_of join_of
  both_plain b g =
      let given = segments_of vs is plane tolerance in
      let P = plain vs is plane tolerance in
      let spliced : (Q : Vector → Type 0) → Each (Each Q) given → Each (Each Q) (splice origin same_point given) = λ Q h. each-spliced Q given h origin same_point in
      record {
        segments = plain-points vs given (P.all_finite g b) P.no_minus_zeros (segments_fit vs is plane tolerance);
        strokes = plain-points vs (splice origin same_point given) (spliced (Coordinates finite) (P.all_finite g b)) (spliced (Coordinates no_minus_zero) P.no_minus_zeros) (λ d. spliced (Coordinates (fits binary64)) (segments_fit vs is plane tolerance d));
      }

  -- of every accepted contour: each point of its segments, and of the strokes that it leaves, is finite and has no -0
  pub contour_plain : (s : List ℕ) (f op : List Float) (os : List ℕ) (p q : ℕ) (l' : Lent) → leaves (placed_said (Ok (place p q))) l' ≡ contour_left vs is plane tolerance s f op os
      → PlainContour vs is plane tolerance (strokes_written p q l'.points l'.starts)
  unfolding contour_left
  contour_plain s f op os p q l' e =
      let t = tested (length s) (length f) (length op) (length os) (was_accepted _ _ _ _ _ e).0 in
      subst (PlainContour vs is plane tolerance) (contour_laid vs is plane tolerance s f op os p q l' e) (both_plain t.0 t.1)
