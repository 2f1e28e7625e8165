-- The steps of a drawing, and what they leave.
use mathlib.Core.Path.{◌≡◌, ap, ◌∙◌, subst}
use mathlib.Core.Bool.{Bool, true, false, ◌&&◌, cond}
use mathlib.Core.List.{List, [], ◌∷◌}
use Prim.Native.Nat.{ℕ, ◌-◌, ◌*◌, ◌/◌, ◌%◌, ◌≤◌}
use native.Mathlib.Omega.{arith}
use lib.ListN.{length, get_or, take, drop, replicate, length-drop}
use lib.Seq.{take_all}
use lib.Dec.{leb, eqb}
use lib.Ieee.{Float}
use borrow.Author.Tests.{leb-true, le-leb, eqb-true}
use Rattle.refusal.specs.Limits.{most_faces, most_strokes}
use Rattle.refusal.specs.Said.{Said, accepted}
use Rattle.refusal.specs.Outcome.{Outcome}
use Rattle.vector.specs.declared.Vector.{Vector}
use Rattle.vector.specs.Lengths.{zero64}
use Rattle.path.specs.Laid.{over, joined, starts_from}
use Rattle.path.proofs.Tests.{both}
use Rattle.path_splice_rule.specs.Splice.{splice}
use Rattle.path_splice.specs.Call as S
use Rattle.path_splice.specs.InnerPairs.{pairs_of, pairs_fit, pairs_left}
use Rattle.path_splice.specs.InnerText.{LaidOut}
use Rattle.mesh.specs.Meshes.{all_below}
use Rattle.mesh_mode.specs.declared.Mode.{Mode}
use Rattle.mesh_edges.specs.InnerWords.{edges_in}
use Rattle.mesh_edges.proofs.Said.{edges_words}
use Rattle.mesh_strokes.specs.Draw.{drawing_of}
use Rattle.mesh_strokes.specs.InnerWalk.{Room, Listed, KeptIn, look_in, flips_for, Fitting}
use Rattle.mesh_strokes.specs.Call.{left, laid, scratch_for, room_for, fits, strokes_left}
use Rattle.mesh_strokes.proofs.Seens.{kept-edges}

-- ---- what the test promises
pub granted : (is : List ℕ) (words numbers room start_room : ℕ) → fits (length is) words numbers room start_room ≡ true → Fitting is words numbers room start_room
unfolding fits scratch_for room_for
granted is words numbers room start_room h =
    let f = both (eqb (length is % 3) 0 && leb (length is / 3) most_faces && (leb (64 * (length is / 3)) words && leb (4 * (length is / 3)) numbers)) (leb (6 * (length is / 3)) room && leb (3 * (length is / 3)) start_room) h in
    let g = both (eqb (length is % 3) 0 && leb (length is / 3) most_faces) (leb (64 * (length is / 3)) words && leb (4 * (length is / 3)) numbers) f.0 in
    let m = both (eqb (length is % 3) 0) (leb (length is / 3) most_faces) g.0 in
    let s = both (leb (64 * (length is / 3)) words) (leb (4 * (length is / 3)) numbers) g.1 in
    let r = both (leb (6 * (length is / 3)) room) (leb (3 * (length is / 3)) start_room) f.1 in
    record { three = eqb-true _ _ m.0; few = leb-true _ _ m.1; scratch = leb-true _ _ s.0; seen = leb-true _ _ s.1; points = leb-true _ _ r.0; starts = leb-true _ _ r.1 }

-- ---- the steps
module _ (is : List ℕ) (words numbers room start_room : ℕ) (F : Fitting is words numbers room start_room) where
  sides : length is ≤ 3 * most_faces
  sides = omega (arith, F.three, F.few)

  pub room_for_lem : (s : List ℕ) → length s ≡ words → Room s (length is)
  room_for_lem s e = record { few = sides; long = omega (arith, F.three, F.scratch, e) }

  pub listed : (s t flips : List ℕ) → length s ≡ words → t ≡ edges_in s is flips → Listed is t
  listed s t flips e f = record { flips = flips; words = ap (take (5 * length is)) f ∙ edges_words s is flips sides (omega (arith, F.three, F.scratch, e)) }

  -- the kept edges fit
  pub fitting : (m : ℕ) (s op os : List ℕ) → length s ≡ words → m ≤ length is → length op ≡ room → length os ≡ start_room
      → pairs_fit m (length (drop (5 * length is) s)) (length op) (length os) ≡ true
  unfolding pairs_fit
  fitting m s op os e h p q =
      let l : length (drop (5 * length is) s) ≡ words - 5 * length is = length-drop (5 * length is) s ∙ ap (λ (w : ℕ). w - 5 * length is) e in
      rw (
        le-leb m most_strokes (omega (arith, F.three, F.few)),
        le-leb (8 * m) (length (drop (5 * length is) s)) (omega (arith, l, F.three, F.scratch)),
        le-leb (2 * m) (length op) (omega (arith, F.three, F.points)),
        le-leb m (length os) (omega (arith, F.three, F.starts)),
      )

-- a part up to the end
pub all_after : (s : List ℕ) (a : ℕ) → take (length s - a) (drop a s) ≡ drop a s
all_after s a = take_all (length s - a) (drop a s) (omega (arith, length-drop a s))

-- strokes that a splice of pairs has laid out
first_two : (a b c d : ℕ) → ◌≡◌ {A = Said ℕ} (accepted (a ∷ b ∷ [])) (accepted (c ∷ d ∷ [])) → (a ≡ c) × (b ≡ d)
first_two a b c d e = (ap (λ (s : Said ℕ). get_or s.values 0 0) e, ap (λ (s : Said ℕ). get_or s.values 1 0) e)

pub spliced : (t t' op os op' os' : List ℕ) (m p q : ℕ) → pairs_fit m (length t) (length op) (length os) ≡ true
    → S.left (accepted (p ∷ q ∷ [])) t' op' os' ≡ pairs_left t m op os → LaidOut (splice 0 eqb (pairs_of (take (2 * m) t))) op os op' os' p q
unfolding pairs_left S.laid
spliced t t' op os op' os' m p q f e =
    let D = splice 0 eqb (pairs_of (take (2 * m) t)) in
    let g : S.left (accepted (p ∷ q ∷ [])) t' op' os' ≡ S.left (accepted (length (joined D) ∷ length D ∷ [])) (over t (replicate (8 * m) 0)) (over op (joined D)) (over os (starts_from 0 D)) =
    e ∙ ap (λ (b : Bool). cond b (S.left (accepted (length (joined D) ∷ length D ∷ [])) (over t (replicate (8 * m) 0)) (over op (joined D)) (over os (starts_from 0 D))) (S.left (accepted (0 ∷ 0 ∷ [])) t op os)) f in
    let n = first_two p q (length (joined D)) (length D) (ap (λ (x : Outcome S.Lent). x.answer) g) in
    record { points = ap (λ (x : Outcome S.Lent). x.lent.points) g; starts = ap (λ (x : Outcome S.Lent). x.lent.starts) g; many = n.0; strokes = n.1 }

pub laid_as : (ss ts : List (List ℕ)) (op os op' os' : List ℕ) (p q : ℕ) → ss ≡ ts → LaidOut ss op os op' os' p q → LaidOut ts op os op' os' p q
laid_as ss ts op os op' os' p q e L = subst (λ (D : List (List ℕ)). LaidOut D op os op' os' p q) e L

-- the pairs are the kept edges, and their splice the drawing
pub drawing_of_lem : (mode : Mode) (eye : Vector) (tolerance : Float) (flips : List ℕ) (vs : List Float) (is : List ℕ) (l : List Float) (s t u : List ℕ) (m words numbers room start_room : ℕ)
    → Fitting is words numbers room start_room → length s ≡ words → length l ≡ numbers → t ≡ edges_in s is (flips_for mode flips)
    → KeptIn mode (look_in mode eye vs is l) tolerance is t u m → splice 0 eqb (pairs_of (take (2 * m) (drop (5 * length is) u))) ≡ drawing_of mode eye tolerance flips vs is
unfolding drawing_of
drawing_of_lem mode eye tolerance flips vs is l s t u m words numbers room start_room F es el et K =
    let w = ap (take (5 * length is)) et ∙ edges_words s is (flips_for mode flips) (omega (arith, F.three, F.few)) (omega (arith, F.three, F.scratch, es)) in
    ap (splice 0 eqb) (K.pairs (flips_for mode flips) w ∙ kept-edges mode eye tolerance flips vs is l F.three (omega (arith, F.seen, el)))

-- ---- the two returns
module _ (vs : List Float) (is flips : List ℕ) (mode : Mode) (eye : Vector) (tolerance : Float) (s : List ℕ) (f : List Float) (op os : List ℕ) where
  pub strokes_yes : (s' : List ℕ) (f' : List Float) (op' os' : List ℕ) (p q : ℕ) → (fits (length is) (length s) (length f) (length op) (length os) && all_below (length vs / 3) is) ≡ true
      → s' ≡ replicate (length s) 0 → f' ≡ replicate (length f) zero64 → LaidOut (drawing_of mode eye tolerance flips vs is) op os op' os' p q
      → left (accepted (p ∷ q ∷ [])) s' f' op' os' ≡ strokes_left vs is flips mode eye tolerance s f op os
  unfolding strokes_left laid
  strokes_yes s' f' op' os' p q e es ef L = rw (e, es, ef, L.points, L.starts, L.many, L.strokes)

  pub strokes_no : (fits (length is) (length s) (length f) (length op) (length os) && all_below (length vs / 3) is) ≡ false → left (accepted (0 ∷ 0 ∷ [])) s f op os ≡ strokes_left vs is flips mode eye tolerance s f op os
  unfolding strokes_left
  strokes_no e = rw e
