-- Demand 3 of every accepted `draw` and of every accepted `splice`.
use Rattle.std.specs.Prelude.{Ok}
use mathlib.Core.Path.{◌≡◌, refl, sym, ap, ◌∙◌, subst}
use mathlib.Core.Bool.{true}
use mathlib.Core.List.{List, [], ◌∷◌}
use Prim.Native.Nat.{ℕ, zero, suc, ◌+◌, ◌/◌, ◌%◌, ◌<◌, ◌≤◌}
use native.Mathlib.Omega.{arith}
use lib.Dec.{eqb, leb, ltb}
use lib.Ieee.{Float}
use lib.ListN.{length, get_or}
use borrow.Author.Tests.{ltb-true, leb-true}
use Rattle.refusal.specs.Refusals.{Verdict}
use Rattle.refusal.specs.Limits.{most_vertices, most_faces}
use Rattle.refusal.specs.Outcome.{Outcome, leaves}
use Rattle.refusal.proofs.Unique.{same-values}
use Rattle.refusal.proofs.Outcomes.{was_accepted}
use Rattle.path.specs.Laid.{over, joined, starts_from}
use Rattle.path.proofs.Tests.{passed, both}
use Rattle.path.proofs.Again.{laid-again}
use Rattle.path_splice_rule.specs.Demand.{one, drawn, degree, Demand3}
use Rattle.path_splice_rule.specs.Splice.{splice}
use Rattle.path_splice_rule.proofs.Bags.{bags}
use Rattle.path_splice_rule.proofs.Numbers.{numbers, on-numbers}
use Rattle.path.specs.Strokes.{strokes_in}
use Rattle.path_splice.specs.Call as S
use Rattle.path.specs.Call.{place, placed_said}
use Rattle.mesh.specs.Meshes.{counted_of, all_below}
use Rattle.mesh_mode.specs.declared.Mode.{Mode}
use Rattle.mesh_strokes.specs.Draw.{kept, seen_by, kept_of, drawing_of}
use Rattle.mesh_strokes.specs.Call as L
use Rattle.mesh_strokes.proofs.DrawingDemand.{drawing_demand3}
use Rattle.mesh_draw.specs.declared.Sight.{Sight}
use Rattle.mesh_draw.specs.Call as C
use Rattle.demand3.specs.Demand3.{strokes_written, Draws, kept_pair}
use Rattle.demand3.proofs.Pairs.{once}

-- what splicing keeps of some strokes, said of how often each pair is to be drawn
draws : (given out : List (List ℕ)) (times : ℕ → ℕ → ℕ) → Demand3 eqb given out → ((a b : ℕ) → drawn eqb a b given ≡ times a b) → Draws times out
unfolding degree
draws given out times d h =
    record {
      pairs = λ a b. d.pairs a b ∙ h a b;
      odd = λ v. d.odd v ∙ ap (λ (n : ℕ). n % 2) (sym (bags eqb numbers out given d.pairs (λ x y. one (eqb v x) + one (eqb v y)) (λ x y. omega arith)));
      least = λ other e. d.least other (λ a b. e a b ∙ sym (h a b));
    }

-- what lies in two lists after strokes were laid over them, read by their counts
read : (ss : List (List ℕ)) (op os op' os' : List ℕ) (p q : ℕ) → ◌≡◌ {A = List ℕ} (p ∷ q ∷ []) (length (joined ss) ∷ length ss ∷ []) → op' ≡ over op (joined ss) → os' ≡ over os (starts_from 0 ss) → ss ≡ strokes_written p q op' os'
read ss op os op' os' p q e f g =
    let a : p ≡ length (joined ss) = ap (λ (l : List ℕ). get_or l 0 0) e in
    let b : q ≡ length ss = ap (λ (l : List ℕ). get_or l 1 0) e in
    rw (a, b, f, g) (sym (laid-again ss op os))

-- ---- splice

module _ (ps ss s op os : List ℕ) where
  splice-laid : (p q : ℕ) (l' : S.Lent) → leaves (placed_said (Ok (place p q))) l' ≡ S.splice_left ps ss s op os → splice 0 eqb (strokes_in ps ss) ≡ strokes_written p q l'.points l'.starts
  unfolding S.splice_left S.laid
  splice-laid p q l' e =
      let g = (was_accepted _ _ _ _ _ e).1 in
      read (splice 0 eqb (strokes_in ps ss)) op os l'.points l'.starts p q (same-values (ap (λ (o : Outcome S.Lent). o.answer) g)) (ap (λ (o : Outcome S.Lent). o.lent.points) g) (ap (λ (o : Outcome S.Lent). o.lent.starts) g)

  -- whatever an accepted splice leaves, each pair of the strokes given is drawn as often as there
  pub splice-demand3 : (p q : ℕ) (l' : S.Lent) → leaves (placed_said (Ok (place p q))) l' ≡ S.splice_left ps ss s op os
      → Draws (λ a b. drawn eqb a b (strokes_in ps ss)) (strokes_written p q l'.points l'.starts)
  splice-demand3 p q l' e =
      subst (Draws (λ a b. drawn eqb a b (strokes_in ps ss))) (splice-laid p q l' e)
      (draws (strokes_in ps ss) (splice 0 eqb (strokes_in ps ss)) (λ a b. drawn eqb a b (strokes_in ps ss)) (on-numbers (strokes_in ps ss)) (λ a b. refl))

-- ---- draw

below-words : (n : ℕ) (is : List ℕ) → all_below n is ≡ true → n ≤ most_vertices → (k : ℕ) → get_or is k 0 < 4294967296
unfolding all_below
below-words n [] h l k = omega arith
below-words n (i ∷ is) h l zero = omega (arith, ltb-true i n (both (ltb i n) (all_below n is) h).0)
below-words n (i ∷ is) h l (suc k) = below-words n is (both (ltb i n) (all_below n is) h).1 l k

module _ (vs : List Float) (is flips : List ℕ) (s : Sight) (l : L.Lent) where
  abbrev verdict : Verdict
  verdict = C.verdict_of vs is (length flips) s (C.lengths_of l)

  abbrev mode : Mode
  mode = C.mode_named s.number s.cosine

  abbrev the_drawing : List (List ℕ)
  the_drawing = drawing_of mode s.eye s.tolerance flips vs is

  -- how often each pair is to be drawn: once where it is kept, and else not at all
  abbrev pub once_kept : ℕ → ℕ → ℕ
  once_kept a b = one (kept_pair mode s.eye s.tolerance flips vs is a b)

  words : verdict ≡ (Ok tt) → (k : ℕ) → get_or is k 0 < 4294967296
  unfolding C.verdict_of counted_of
  words h =
      let shape = passed _ _ _ h in
      let count = passed _ _ _ shape.1 in
      let vertex = passed _ _ _ count.1 in
      below-words (length vs / 3) is vertex.0 (leb-true _ _ (both (leb (length vs / 3) most_vertices) (leb (length is / 3) most_faces) count.0).0)

  kept-once : verdict ≡ (Ok tt) → (a b : ℕ) → drawn eqb a b (kept_of mode s.eye s.tolerance flips vs is) ≡ once_kept a b
  unfolding kept_of kept_pair
  kept-once h a b = once (kept mode (seen_by s.eye vs is) flips s.tolerance) is (words h) a b

  draw_laid : (p q : ℕ) (l' : L.Lent) → leaves (placed_said (Ok (place p q))) l' ≡ C.draw_left vs is flips s l → (verdict ≡ (Ok tt)) × (the_drawing ≡ strokes_written p q l'.points l'.starts)
  unfolding C.draw_left L.laid
  draw_laid p q l' e =
      let k = was_accepted _ _ _ _ _ e in
      let g = k.1 in
      (k.0, read the_drawing l.points l.starts l'.points l'.starts p q (same-values (ap (λ (o : Outcome L.Lent). o.answer) g)) (ap (λ (o : Outcome L.Lent). o.lent.points) g) (ap (λ (o : Outcome L.Lent). o.lent.starts) g))

  -- whatever an accepted draw leaves: each kept edge once and none invented; then as few open strokes as those edges allow
  pub draw_demand3 : (p q : ℕ) (l' : L.Lent) → leaves (placed_said (Ok (place p q))) l' ≡ C.draw_left vs is flips s l → Draws once_kept (strokes_written p q l'.points l'.starts)
  draw_demand3 p q l' e =
      let g = draw_laid p q l' e in
      subst (Draws once_kept) g.1 (draws (kept_of mode s.eye s.tolerance flips vs is) the_drawing once_kept (drawing_demand3 mode s.eye s.tolerance flips vs is) (kept-once g.0))
