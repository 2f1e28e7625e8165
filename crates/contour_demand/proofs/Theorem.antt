-- Demand 3 of every accepted `contour`.
use Rattle.std.specs.Prelude.{Ok}
use mathlib.Core.Path.{◌≡◌, sym, ap, subst}
use mathlib.Core.List.{List, [], ◌∷◌}
use Prim.Native.Nat.{ℕ}
use native.Mathlib.Omega.{arith}
use lib.ListN.{length, get_or, drop, take}
use lib.Seq.{take_at}
use lib.Ieee.{Float}
use Rattle.refusal.specs.Outcome.{Outcome, leaves}
use Rattle.refusal.proofs.Unique.{same-values}
use Rattle.refusal.proofs.Outcomes.{was_accepted}
use Rattle.vector.specs.declared.Vector.{Vector}
use Rattle.path.specs.Strokes.{point_at}
use Rattle.path.specs.Laid.{over, joined, starts_from, flat}
use Rattle.path.proofs.Pushes.{length-starts}
use Rattle.path.proofs.Again.{strokes_again}
use Rattle.path_splice_rule.proofs.Spliced.{demand3}
use Rattle.path_classes.specs.Classes.{same_point}
use Rattle.path_segments.specs.Join.{origin, join_of}
use Rattle.path_segments.proofs.Joins.{points_lawful}
use Rattle.mesh_section.specs.declared.Plane.{Plane}
use Rattle.mesh_contour_rule.specs.Contour.{segments_of}
use Rattle.mesh_contour_rule.proofs.Closed.{all_closed}
use Rattle.path.specs.Call.{place, placed_said}
use Rattle.mesh_contour.specs.Contour.{contour_of}
use Rattle.mesh_contour.specs.Call.{Lent, laid, contour_left}
use Rattle.mesh_contour.proofs.Back.{points_again}
use Rattle.contour_demand.specs.Demand3.{strokes_written, Contours}

-- what lies in two lists after strokes were laid over them, read by their counts
read : (ss : List (List Vector)) (op : List Float) (os : List ℕ) (op' : List Float) (os' : List ℕ) (p q : ℕ) → ◌≡◌ {A = List ℕ} (p ∷ q ∷ []) (length (joined ss) ∷ length ss ∷ [])
    → op' ≡ over op (flat (joined ss)) → os' ≡ over os (starts_from 0 ss) → ss ≡ strokes_written p q op' os'
unfolding over
read ss op os op' os' p q e f g =
    let a : p ≡ length (joined ss) = ap (λ (l : List ℕ). get_or l 0 0) e in
    let b : q ≡ length ss = ap (λ (l : List ℕ). get_or l 1 0) e in
    let starts = starts_from 0 ss in
    let t : take (length ss) (over os starts) ≡ starts = take_at starts (drop (length starts) os) (length ss) (length-starts 0 ss) in
    rw (a, b, f, g, t)
    (sym (strokes_again (point_at (over op (flat (joined ss)))) ss 0 (length (joined ss)) (omega arith) (points_again (joined ss) (drop (length (flat (joined ss))) op))))

module _ (vs : List Float) (is : List ℕ) (plane : Plane) (tolerance : Float) (s : List ℕ) (f op : List Float) (os : List ℕ) where
  pub contour_laid : (p q : ℕ) (l' : Lent) → leaves (placed_said (Ok (place p q))) l' ≡ contour_left vs is plane tolerance s f op os → contour_of vs is plane tolerance ≡ strokes_written p q l'.points l'.starts
  unfolding contour_left laid
  contour_laid p q l' e =
      let g = (was_accepted _ _ _ _ _ e).1 in
      read (contour_of vs is plane tolerance) op os l'.points l'.starts p q (same-values (ap (λ (o : Outcome Lent). o.answer) g)) (ap (λ (o : Outcome Lent). o.lent.points) g) (ap (λ (o : Outcome Lent). o.lent.starts) g)

  the_contour : Contours vs is plane tolerance (contour_of vs is plane tolerance)
  unfolding contour_of join_of
  the_contour =
      record {
        demand3 = demand3 origin same_point points_lawful (segments_of vs is plane tolerance);
        closed = λ M. all_closed vs is M plane tolerance origin same_point points_lawful;
      }

  -- whatever an accepted contour leaves: each segment drawn and none invented; then as few open strokes as they allow, none of a closed mesh
  pub contour_demand3 : (p q : ℕ) (l' : Lent) → leaves (placed_said (Ok (place p q))) l' ≡ contour_left vs is plane tolerance s f op os → Contours vs is plane tolerance (strokes_written p q l'.points l'.starts)
  contour_demand3 p q l' e = subst (Contours vs is plane tolerance) (contour_laid p q l' e) the_contour
