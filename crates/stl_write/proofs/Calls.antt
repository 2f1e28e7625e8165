-- The call as a whole: what its tests grant, the loop over the faces, and what the call leaves.
use Rattle.refusal.specs.Refusals.{unless}
use Rattle.refusal.specs.declared.Refusal.TheVariants.{Number, Room}
use Rattle.std.specs.Prelude.{Ok, leb}
use mathlib.Core.Path.{◌≡◌, refl, sym, ap, ◌∙◌}
use mathlib.Core.Bool.{Bool, true, false, ◌&&◌}
use mathlib.Core.List.{List, [], ◌∷◌}
use Prim.Native.Nat.{ℕ, ◌+◌, ◌-◌, ◌*◌, ◌/◌, ◌≤◌, ◌<◌}
use native.Mathlib.Omega.{arith}
use lib.ListN.{length, drop}
use lib.Seq.{sets}
use lib.Ieee.{Float}
use borrow.Author.Tests.{leb-true}
use Rattle.refusal.specs.Limits.{most_faces}
use Rattle.refusal.specs.Said.{accepted}
use Rattle.path.specs.Tests.{coordinates_good}
use Rattle.path.specs.Laid.{over, flat}
use Rattle.path.proofs.Tests.{passed, both}
use Rattle.path.proofs.Pushes.{over-sets}
use Rattle.mesh.specs.declared.Triangle.{Triangle}
use Rattle.mesh.specs.Meshes.{face_at, gathered, all_below, mesh_verdict}
use Rattle.mesh.proofs.Tests.{few_faces, whole_faces}
use Rattle.mesh.proofs.Gathers.{length-gathered, face-gathered}
use Rattle.stl.specs.Files.{face_numbers, size_of, face_of, faces_of, stl_of, all_single}
use Rattle.stl.proofs.Back.{size_is}
use Rattle.stl.proofs.Written.{face-turn}
use Rattle.stl_write.specs.Call.{numbers_good, verdict_of, left, laid}

-- the two tests of the numbers, one after the other
first-fails : (a b : Bool) → a ≡ false → false ≡ (a && b)
first-fails a b z = ap (λ (x : Bool). x && b) (sym z)

first_holds : (a b r : Bool) → a ≡ true → r ≡ b → r ≡ (a && b)
first_holds a b r z q = q ∙ ap (λ (x : Bool). x && b) (sym z)

module _ (vs : List Float) (is : List ℕ) (b : Bool) (e : b ≡ coordinates_good vs) where
  pub past_bound : b ≡ false → false ≡ numbers_good vs is
  unfolding numbers_good
  past_bound z = first-fails (coordinates_good vs) _ (sym e ∙ z)

  pub within-bound : b ≡ true → (r : Bool) → r ≡ all_single (gathered vs is) → r ≡ numbers_good vs is
  unfolding numbers_good
  within-bound z r q = first_holds (coordinates_good vs) _ r (sym e ∙ z) q

-- what an accepted call has been tested for
pub record Granted (vs : List Float) (is : List ℕ) (room : ℕ) : Type 0 where
  pub whole : length is ≡ length is / 3 * 3
  pub few : length is / 3 ≤ most_faces
  pub below : all_below (length vs / 3) is ≡ true
  pub exact : all_single (gathered vs is) ≡ true
  pub fits : size_of (length is / 3) ≤ room

pub granted : (vs : List Float) (is : List ℕ) (room : ℕ) → verdict_of vs is room ≡ (Ok tt) → Granted vs is room
unfolding verdict_of numbers_good
granted vs is room h =
    let shape = passed _ _ _ h in
    let count = passed _ _ _ shape.1 in
    let vertex = passed _ _ _ count.1 in
    let number = passed _ _ _ vertex.1 in
    let fit = passed _ _ _ number.1 in
    record {
      whole = whole_faces (length vs) (length is) shape.0;
      few = few_faces (length vs) (length is) count.0;
      below = vertex.0;
      exact = (both (coordinates_good vs) (all_single (gathered vs is)) number.0).1;
      fits = leb-true _ _ fit.0;
    }

-- nine coordinates a face
pub all_gathered : (vs : List Float) (is : List ℕ) (n : ℕ) → length is ≡ n * 3 → length (gathered vs is) ≡ face_numbers * n
all_gathered vs is n e = omega (arith, length-gathered vs is)

-- a turn of the loop that stores face f
pub put-turn : (vs : List Float) (is : List ℕ) (n f : ℕ) → length is ≡ n * 3 → f < n → (t : Triangle) → t ≡ face_at vs is f
    → (l m : List ℕ) → m ≡ sets l (size_of f) (face_of (flat (t.v1 ∷ t.v2 ∷ t.v3 ∷ [])))
    → sets m (size_of (f + 1)) (faces_of (n - (f + 1)) (drop (face_numbers * (f + 1)) (gathered vs is))) ≡ sets l (size_of f) (faces_of (n - f) (drop (face_numbers * f) (gathered vs is)))
put-turn vs is n f e h t q l m p =
    face-turn (gathered vs is) n f (all_gathered vs is n e) h l m
    (p ∙ ap (λ (u : Triangle). sets l (size_of f) (face_of (flat (u.v1 ∷ u.v2 ∷ u.v3 ∷ [])))) q ∙ ap (λ (cs : List Float). sets l (size_of f) (face_of cs)) (sym (face-gathered vs is f (omega arith))))

-- what is written, where it fits
pub all_written : (vs : List Float) (is out out' : List ℕ) (n : ℕ) → Granted vs is (length out) → out' ≡ sets out 0 (stl_of (gathered vs is)) → n ≡ size_of (length is / 3)
    → left (accepted (n ∷ [])) out' ≡ laid (stl_of (gathered vs is)) out
unfolding laid
all_written vs is out out' n g e q =
    let file = stl_of (gathered vs is) in
    let s = size_is (gathered vs is) (length is / 3) (all_gathered vs is (length is / 3) g.whole) in
    let a : out' ≡ over out file = e ∙ over-sets out file (omega (arith, s, g.fits)) in
    let b : n ≡ length file = q ∙ sym s in
    rw (a, b)

-- the mesh's tests come before the numbers and the room
pub mesh-first : (vs : List Float) (is : List ℕ) (room : ℕ)
    → verdict_of vs is room ≡ mesh_verdict vs is (unless (numbers_good vs is) Number (unless (leb (size_of (length is / 3)) room) Room (Ok tt)))
unfolding verdict_of mesh_verdict
mesh-first vs is room = refl
