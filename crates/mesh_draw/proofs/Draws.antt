-- The call: what its tests promise, and what drawing then leaves.
use Rattle.std.specs.Prelude.{Ok, Err}
use mathlib.Core.Path.{◌≡◌, refl}
use mathlib.Core.Bool.{Bool, true, false, ◌&&◌}
use mathlib.Core.List.{List}
use Prim.Native.Nat.{ℕ, ◌/◌, ◌%◌}
use lib.ListN.{length}
use lib.Dec.{leb, eqb}
use lib.Ieee.{Float}
use borrow.Author.Tests.{eq-eqb, ne_eqb}
use Rattle.refusal.specs.declared.Refusal.TheVariants.{Shape}
use Rattle.refusal.specs.Refusals.{Verdict, unless}
use Rattle.refusal.specs.Limits.{most_faces, most_vertices}
use Rattle.vector.specs.declared.Vector.{Vector}
use Rattle.path.proofs.Tests.{passed, both}
use Rattle.mesh.specs.Meshes.{shaped_of, counted_of, all_below, mesh_verdict}
use Rattle.mesh_mode.specs.declared.Mode.{Mode}
use Rattle.mesh_strokes.specs.Draw.{drawing_of}
use Rattle.mesh_strokes.specs.Call.{laid, fits, strokes_left}
use Rattle.mesh_draw.specs.declared.Sight.{Sight}
use Rattle.mesh_strokes.specs.declared.Lengths.{Lengths}
use Rattle.mesh_draw.specs.Call.{paired, work_verdict, verdict_of}

-- ---- the flips are tested with the shape of the mesh
module _ (vs : List Float) (is : List ℕ) (flips : ℕ) (s : Sight) (l : Lengths) where
  pub odd-flips : (flips % 2 ≡ 0 → ⊥) → verdict_of vs is flips s l ≡ Err Shape
  unfolding verdict_of
  odd-flips h = rw (ne_eqb (flips % 2) 0 h) (go (shaped_of (length vs) (length is)) _)
    where
      go : (b : Bool) (v : Verdict) → unless (b && false) Shape v ≡ Err Shape
      go true v = unfold unless in refl
      go false v = unfold unless in refl

  pub even_flips : flips % 2 ≡ 0 → verdict_of vs is flips s l ≡ mesh_verdict vs is (work_verdict vs is s l)
  unfolding verdict_of mesh_verdict
  even_flips h = rw (eq-eqb (flips % 2) 0 h) (go (shaped_of (length vs) (length is)) _)
    where
      go : (b : Bool) (v : Verdict) → unless (b && true) Shape v ≡ unless b Shape v
      go true v = refl
      go false v = refl

-- what passes the tests fits, and every index is that of a vertex
pub granted : (vs : List Float) (is : List ℕ) (flips : ℕ) (s : Sight) (l : Lengths) → verdict_of vs is flips s l ≡ (Ok tt)
    → (fits (length is) l.words l.seen l.points l.starts && all_below (length vs / 3) is) ≡ true
unfolding verdict_of work_verdict shaped_of counted_of fits
granted vs is flips s l h =
    let shape = passed _ _ _ h in
    let count = passed _ _ _ shape.1 in
    let vertex = passed _ _ _ count.1 in
    let good = passed _ _ _ vertex.1 in
    let scratch = passed _ _ _ good.1 in
    let rooms = passed _ _ _ scratch.1 in
    let shaped = (both (shaped_of (length vs) (length is)) (paired flips) shape.0).0 in
    rw ((both (eqb (length vs % 3) 0) (eqb (length is % 3) 0) shaped).1, (both (leb (length vs / 3) most_vertices) (leb (length is / 3) most_faces) count.0).1, scratch.0, rooms.0) vertex.0

-- where all fits, drawing in the mode that the number says leaves the drawing
pub drawing_left : (vs : List Float) (is flips : List ℕ) (mode said : Mode) (eye : Vector) (tolerance : Float) (s : List ℕ) (f : List Float) (op os : List ℕ) → mode ≡ said
    → (fits (length is) (length s) (length f) (length op) (length os) && all_below (length vs / 3) is) ≡ true
    → strokes_left vs is flips mode eye tolerance s f op os ≡ laid (drawing_of said eye tolerance flips vs is) s f op os
unfolding strokes_left
drawing_left vs is flips mode said eye tolerance s f op os m e = rw (e, m)
