-- The loop over the faces, and what a section has been tested for.
use Rattle.std.specs.Prelude.{Ok, Option, Some, None}
use mathlib.Core.Path.{◌≡◌, refl, sym, ap, ◌∙◌}
use mathlib.Core.Bool.{true}
use mathlib.Core.List.{List, [], ◌∷◌}
use Prim.Native.Nat.{ℕ, zero, suc, ◌+◌, ◌-◌, ◌*◌, ◌/◌, ◌≤◌, ◌<◌}
use native.Mathlib.Omega.{arith}
use lib.ListN.{length, set, length-append}
use lib.Dec.{leb}
use lib.Ieee.{Float}
use borrow.Author.Tests.{leb-true}
use Rattle.refusal.specs.Limits.{most_faces, most_vertices}
use Rattle.vector.specs.declared.Vector.{Vector}
use Rattle.path.specs.declared.Place.{Place}
use Rattle.path.specs.Laid.{joined, non_empty}
use Rattle.path.specs.InnerPushes.{out, push, put_point, put_points}
use Rattle.path.proofs.Pushes.{no_more_kept}
use Rattle.path.proofs.Tests.{passed, both}
use Rattle.mesh.specs.declared.Triangle.{Triangle}
use Rattle.mesh.specs.Meshes.{counted_of, all_below}
use Rattle.mesh_section.specs.declared.Plane.{Plane}
use Rattle.mesh_section.specs.Section.{triangle_cut, cut_stroke, faces_cut}
use Rattle.mesh_section.specs.Call.{room_for, verdict_of}

-- a cut written
pub written : (op op₁ op₂ : List Float) (os os₁ : List ℕ) (p : Place) (c : Option (Vector × Vector)) (v w : Vector) → c ≡ Some (v, w)
    → os₁ ≡ set os p.starts p.points → op₁ ≡ put_point op p.points v → op₂ ≡ put_point op₁ (p.points + 1) w
    → out op₂ os₁ (record { points = p.points + 2; starts = p.starts + 1 }) ≡ push put_points (out op os p) (cut_stroke c)
unfolding push put_points
written op op₁ op₂ os os₁ p c v w e es e₁ e₂ =
    let h : out op₂ os₁ (record { points = p.points + 2; starts = p.starts + 1 }) ≡ push put_points (out op os p) (cut_stroke (Some (v, w))) = rw (← es, ← e₁, ← e₂) in
    h ∙ ap (λ (x : Option (Vector × Vector)). push put_points (out op os p) (cut_stroke x)) (sym e)

pub unwritten : (op : List Float) (os : List ℕ) (p : Place) (c : Option (Vector × Vector)) → c ≡ None → out op os p ≡ push put_points (out op os p) (cut_stroke c)
unfolding push
unwritten op os p c e = ap (λ (x : Option (Vector × Vector)). push put_points (out op os p) (cut_stroke x)) (sym e)

module _ (at : ℕ → Triangle) (p : Plane) (tolerance : Float) where
  -- the faces from f on, of n
  pub faces_more : (f n : ℕ) → f < n → faces_cut at p tolerance f (n - f) ≡ cut_stroke (triangle_cut p tolerance (at f)) ∷ faces_cut at p tolerance (f + 1) (n - (f + 1))
  unfolding faces_cut
  faces_more f n h = let e : n - f ≡ suc (n - (f + 1)) = omega arith in rw e

  pub faces_none : (f n : ℕ) → n ≤ f → faces_cut at p tolerance f (n - f) ≡ []
  unfolding faces_cut
  faces_none f n h = let e : n - f ≡ 0 = omega arith in rw e

  two-at_most : (c : Option (Vector × Vector)) → length (cut_stroke c) ≤ 2
  two-at_most (Some (v, w)) = omega arith
  two-at_most None = omega arith

  faces_points : (f n : ℕ) → length (joined (faces_cut at p tolerance f n)) ≤ 2 * n
  unfolding faces_cut joined
  faces_points f zero = omega arith
  faces_points f (suc n) =
      omega (arith, length-append (cut_stroke (triangle_cut p tolerance (at f))) (joined (faces_cut at p tolerance (f + 1) n)), two-at_most (triangle_cut p tolerance (at f)), faces_points (f + 1) n)

  faces_strokes : (f n : ℕ) → length (faces_cut at p tolerance f n) ≡ n
  unfolding faces_cut
  faces_strokes f zero = refl
  faces_strokes f (suc n) = ap suc (faces_strokes (f + 1) n)

  -- what n faces give fits the room that is asked for
  pub faces_fit : (n room start_room : ℕ) → n * 6 ≤ room → n ≤ start_room
      → (length (joined (faces_cut at p tolerance 0 n)) * 3 ≤ room) × (length (non_empty (faces_cut at p tolerance 0 n)) ≤ start_room)
  faces_fit n room start_room h k =
      (omega (arith, faces_points 0 n), omega (arith, no_more_kept (faces_cut at p tolerance 0 n), faces_strokes 0 n))

pub fitting : (vs : List Float) (is : List ℕ) (p : Plane) (tolerance : Float) (room start_room : ℕ) → verdict_of vs is p tolerance room start_room ≡ (Ok tt)
    → (length is / 3 ≤ most_faces) × (length is / 3 * 6 ≤ room) × (length is / 3 ≤ start_room)
unfolding verdict_of counted_of room_for
fitting vs is p tolerance room start_room h =
    let shape = passed _ _ _ h in
    let count = passed _ _ _ shape.1 in
    let vertex = passed _ _ _ count.1 in
    let number = passed _ _ _ vertex.1 in
    let fits = both (leb (length is / 3 * 6) room) (leb (length is / 3) start_room) (passed _ _ _ number.1).0 in
    (leb-true _ _ (both (leb (length vs / 3) most_vertices) (leb (length is / 3) most_faces) count.0).1, leb-true _ _ fits.0, leb-true _ _ fits.1)

-- every index is that of a vertex
pub below : (vs : List Float) (is : List ℕ) (p : Plane) (tolerance : Float) (room start_room : ℕ) → verdict_of vs is p tolerance room start_room ≡ (Ok tt) → all_below (length vs / 3) is ≡ true
unfolding verdict_of
below vs is p tolerance room start_room h = (passed _ _ _ (passed _ _ _ (passed _ _ _ h).1).1).0
