-- An accepted chop was never cut off: with more steps a span allowed, the strokes are the same.
use Rattle.std.specs.Prelude.{Ok}
use mathlib.Core.Path.{◌≡◌, refl, ap, ◌∙◌}
use mathlib.Core.Logic.{⊎_elim}
use mathlib.Core.List.{List, [], ◌∷◌, ◌++◌, map}
use Prim.Native.Nat.{ℕ, ◌+◌, ◌/◌, ◌<◌}
use native.Mathlib.Omega.{arith}
use lib.ListN.{length, length-append, length-map}
use lib.Ieee.{Float}
use Rattle.vector.specs.declared.Vector.{Vector}
use Rattle.vector.specs.Vectors.{sub_of}
use Rattle.vector.specs.Lengths.{length_of}
use Rattle.path.specs.Strokes.{point_at, strokes_of}
use Rattle.path.specs.Laid.{joined}
use Rattle.path_chop.specs.Chop.{too_many, along, steps_of, cut, span, spans, chopped, chopped_by, chopped_of}
use Rattle.path_chop.specs.Call.{verdict_of}
use Rattle.path_chop.proofs.Chops.{steps_limit}
use Rattle.path_chop.proofs.Calls.{chop_accepted}

-- where fewer than k points are given, k steps a span are as good as k + n
module _ (k n : ℕ) (step : Float) where
  steps_same : (l d : Float) → length (steps_of k l step d) < k → steps_of (k + n) l step d ≡ steps_of k l step d
  steps_same l d h = ⊎_elim (λ e. e) (λ e. absurd (omega arith)) (steps_limit k n l step d)

  span_same : (a b : Vector) → length (span k step a b) < k → span (k + n) step a b ≡ span k step a b
  unfolding span cut
  span_same a b h =
      let v = sub_of b a in
      let ds = steps_of k (length_of v) step step in
      let along-v = along a v (length_of v) in
      ap (λ (x : List Float). map along-v x ++ (b ∷ []))
      (steps_same (length_of v) step (omega (arith, length-append (map along-v ds) (b ∷ []), length-map ds along-v)))

  spans-same : (a : Vector) (vs : List Vector) → length (spans k step a vs) < k → spans (k + n) step a vs ≡ spans k step a vs
  unfolding spans
  spans-same a [] h = refl
  spans-same a (b ∷ vs) h =
      let m = length-append (span k step a b) (spans k step b vs) in
      ap (λ (x : List Vector). x ++ spans (k + n) step b vs) (span_same a b (omega arith))
      ∙ ap (λ (x : List Vector). span k step a b ++ x) (spans-same b vs (omega arith))

  chopped-same : (s : List Vector) → length (chopped k step s) < k → chopped (k + n) step s ≡ chopped k step s
  unfolding chopped
  chopped-same [] h = refl
  chopped-same (a ∷ []) h = refl
  chopped-same (a ∷ b ∷ vs) h = ap (λ (x : List Vector). a ∷ x) (spans-same a (b ∷ vs) (omega arith))

  strokes_same : (ss : List (List Vector)) → length (joined (map (chopped k step) ss)) < k → map (chopped (k + n) step) ss ≡ map (chopped k step) ss
  unfolding joined
  strokes_same [] h = refl
  strokes_same (s ∷ ss) h =
      let m = length-append (chopped k step s) (joined (map (chopped k step) ss)) in
      ap (λ (x : List Vector). x ∷ map (chopped (k + n) step) ss) (chopped-same s (omega arith))
      ∙ ap (λ (x : List (List Vector)). chopped k step s ∷ x) (strokes_same ss (omega arith))

pub never_cut_off : (ps : List Float) (ss : List ℕ) (step : Float) (room start_room : ℕ) → verdict_of ps ss step room start_room ≡ (Ok tt)
    → (n : ℕ) → chopped_by (too_many + n) step ps ss ≡ chopped_of step ps ss
unfolding chopped_by
never_cut_off ps ss step room start_room h n =
    let few = (chop_accepted ps ss step room start_room h).0 in
    strokes_same too_many n step (strokes_of (point_at ps) (length ps / 3) ss) (omega arith)
