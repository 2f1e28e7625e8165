-- What the tests before a contour promise, and what an accepted one leaves.
use Rattle.std.specs.Prelude.{Ok}
use mathlib.Core.Path.{◌≡◌, refl, sym, ap, ◌∙◌}
use mathlib.Core.Bool.{true}
use mathlib.Core.List.{List}
use Prim.Native.Nat.{ℕ, ◌*◌, ◌/◌, ◌≤◌}
use native.Mathlib.Omega.{arith}
use lib.ListN.{length, replicate}
use lib.Dec.{leb}
use lib.Ieee.{Float}
use borrow.Author.Tests.{leb-true, le-leb}
use Rattle.refusal.specs.Limits.{most_faces, most_strokes}
use Rattle.refusal.specs.declared.Refusal.TheVariants.{Scratch, Room}
use Rattle.refusal.specs.Refusals.{Verdict, unless}
use Rattle.refusal.specs.Outcome.{Outcome, leaves}
use Rattle.refusal.proofs.Outcomes.{accept}
use Rattle.vector.specs.declared.Vector.{Vector}
use Rattle.vector.specs.Lengths.{zero64}
use Rattle.path.specs.declared.Place.{Place}
use Rattle.path.specs.Laid.{over, joined}
use Rattle.path.specs.InnerPushes.{put_points}
use Rattle.path.proofs.Tests.{passed, both}
use Rattle.path.proofs.Places.{placed}
use Rattle.path_segments.specs.Join.{Lent as Joined, left as joined_to, laid as join_laid, join_of, join_fits, join_left}
use Rattle.mesh.specs.Meshes.{all_below, mesh_verdict}
use Rattle.mesh.proofs.Tests.{few_faces}
use Rattle.mesh_section.specs.declared.Plane.{Plane}
use Rattle.mesh_section.specs.Call.{room_for, cut_verdict}
use Rattle.mesh_contour_rule.specs.Contour.{corner_of, segments_from, segments_of}
use Rattle.mesh_contour.specs.Contour.{contour_of}
use Rattle.mesh_contour.specs.Call.{lent, left, laid, scratch_for, verdict_of, contour_left}
use Rattle.mesh_contour.proofs.Segments.{Pairs, at_most, all_pairs_lem}
use Rattle.mesh_contour.proofs.Back.{read_back}

-- n faces, within the limit, with the scratch and the room that they ask for
pub record Granted (n words numbers room start_room : ℕ) : Type 0 where
  pub few : n ≤ most_faces
  pub enough_words : 16 * n ≤ words
  pub enough_numbers : 8 * n ≤ numbers
  pub enough_room : n * 6 ≤ room
  pub enough_starts : n ≤ start_room

-- what passes the tests is granted all that, and every corner is there
module _ (vs : List Float) (is : List ℕ) (p : Plane) (tolerance : Float) (words numbers room start_room : ℕ) (v : Verdict) (told : v ≡ verdict_of vs is p tolerance words numbers room start_room) (yes : v ≡ (Ok tt)) where
  pub granted : Granted (length is / 3) words numbers room start_room
  unfolding verdict_of scratch_for room_for
  granted =
      let n = length is / 3 in
      let count = passed _ _ _ (passed _ _ _ (sym told ∙ yes)).1 in
      let scratch = passed _ _ _ (passed _ _ _ (passed _ _ _ count.1).1).1 in
      let s = both (leb (16 * n) words) (leb (8 * n) numbers) scratch.0 in
      let r = both (leb (n * 6) room) (leb n start_room) (passed _ _ _ scratch.1).0 in
      record {
        few = few_faces (length vs) (length is) count.0;
        enough_words = leb-true _ _ s.0;
        enough_numbers = leb-true _ _ s.1;
        enough_room = leb-true _ _ r.0;
        enough_starts = leb-true _ _ r.1;
      }

  -- every index is that of a vertex
  pub below : all_below (length vs / 3) is ≡ true
  unfolding verdict_of
  below = (passed _ _ _ (passed _ _ _ (passed _ _ _ (sym told ∙ yes)).1).1).0

-- the tests of a section come first, but for its room, which comes last
pub room-last : (vs : List Float) (is : List ℕ) (p : Plane) (tolerance : Float) (words numbers room start_room : ℕ) → verdict_of vs is p tolerance words numbers room start_room
    ≡ cut_verdict vs is p tolerance (unless (scratch_for (length is / 3) words numbers) Scratch (unless (room_for (length is / 3) room start_room) Room (Ok tt)))
unfolding verdict_of cut_verdict mesh_verdict
room-last vs is p tolerance words numbers room start_room = refl

-- segments of two points each, no more than n
module _ (ss : List (List Vector)) (two : Pairs ss) (n : ℕ) (few : length ss ≤ n) (s : List ℕ) (f op : List Float) (os : List ℕ) (g : Granted n (length s) (length f) (length op) (length os)) where
  -- they fit, and those that are joined are those that were put
  joins : join_left (put_points f 0 (joined ss)) (length ss) s op os ≡ join_laid (join_of ss) (over s (replicate (12 * length ss) 0)) op os
  unfolding join_left join_fits
  joins =
      let k = length ss in
      rw (le-leb k most_strokes (omega arith), le-leb (12 * k) (length s) (omega arith), le-leb (6 * k) (length op) (omega arith), le-leb k (length os) (omega arith), read_back two f (omega arith))

  -- joined, with all scratch cleared after it
  joined-left : (p : Place) (k : ℕ) (s₁ s₂ : List ℕ) (f₁ f₂ op₁ : List Float) (os₁ : List ℕ) → f₁ ≡ put_points f 0 (joined ss) → k ≡ length ss
      → joined_to (placed p) s₁ op₁ os₁ ≡ join_left f₁ k s op os → length s₁ ≡ length s → length f₁ ≡ length f → s₂ ≡ replicate (length s₁) 0 → f₂ ≡ replicate (length f₁) zero64
      → left (placed p) s₂ f₂ op₁ os₁ ≡ laid (join_of ss) s f op os
  unfolding laid join_laid
  joined-left p k s₁ s₂ f₁ f₂ op₁ os₁ ef ek e ls lf es eg =
      let j : joined_to (placed p) s₁ op₁ os₁ ≡ join_laid (join_of ss) (over s (replicate (12 * length ss) 0)) op os = e ∙ rw (ef, ek) joins in
      let es' : s₂ ≡ replicate (length s) 0 = es ∙ ap (λ (m : ℕ). replicate m 0) ls in
      let ef' : f₂ ≡ replicate (length f) zero64 = eg ∙ ap (λ (m : ℕ). replicate m zero64) lf in
      rw (← es', ← ef') (ap (λ (o : Outcome Joined). leaves o.answer (lent s₂ f₂ o.lent.points o.lent.starts)) j)

-- an accepted call, by what its functions ensure
module _ (vs : List Float) (is : List ℕ) (plane : Plane) (tolerance : Float) (s : List ℕ) (f op : List Float) (os : List ℕ) (v : Verdict)
    (told : v ≡ verdict_of vs is plane tolerance (length s) (length f) (length op) (length os)) (yes : v ≡ (Ok tt)) where
  abbrev segments : List (List Vector)
  segments = segments_from (corner_of plane tolerance vs is) 0 (length is / 3)

  pub contour_left_lem : (p : Place) (k : ℕ) (s₁ s₂ : List ℕ) (f₁ f₂ op₁ : List Float) (os₁ : List ℕ) → f₁ ≡ put_points f 0 (joined segments) → k ≡ length segments
      → joined_to (placed p) s₁ op₁ os₁ ≡ join_left f₁ k s op os → length s₁ ≡ length s → length f₁ ≡ length f → s₂ ≡ replicate (length s₁) 0 → f₂ ≡ replicate (length f₁) zero64
      → left (placed p) s₂ f₂ op₁ os₁ ≡ contour_left vs is plane tolerance s f op os
  unfolding contour_left contour_of segments_of
  contour_left_lem p k s₁ s₂ f₁ f₂ op₁ os₁ ef ek e ls lf es eg =
      let at = corner_of plane tolerance vs is in
      let n = length is / 3 in
      accept _ _ _ (sym told ∙ yes)
      (joined-left segments (all_pairs_lem at 0 n) n (at_most at 0 n) s f op os (granted vs is plane tolerance (length s) (length f) (length op) (length os) v told yes) p k s₁ s₂ f₁ f₂ op₁ os₁ ef ek e ls lf es eg)
