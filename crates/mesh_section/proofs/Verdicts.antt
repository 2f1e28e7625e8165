-- The tests that a section shares with a contour: what they tell, and what they leave to those that follow.
use Rattle.std.specs.Prelude.{Ok, Err}
use mathlib.Core.Path.{◌≡◌, refl}
use mathlib.Core.Bool.{Bool, true, false}
use mathlib.Core.List.{List}
use Prim.Native.Nat.{ℕ, ◌/◌}
use lib.ListN.{length}
use lib.Ieee.{Float}
use Rattle.refusal.specs.declared.Refusal.{Refusal}
use Rattle.refusal.specs.declared.Refusal.TheVariants.{Shape, Count, Vertex, Number, Room}
use Rattle.refusal.specs.Refusals.{Verdict, unless}
use Rattle.path.proofs.Tests.{passed}
use Rattle.mesh.specs.Meshes.{shaped_of, counted_of, all_below, mesh_verdict}
use Rattle.mesh.proofs.Tests.{mesh-passed, mesh-refused}
use Rattle.mesh_section.specs.declared.Plane.{Plane}
use Rattle.mesh_section.specs.Call.{numbers_good, room_for, cut_verdict, verdict_of}

module _ (vs : List Float) (is : List ℕ) (p : Plane) (tolerance : Float) where
  -- the mesh's tests decide where they refuse, and otherwise the numbers
  pub cut-mesh : mesh_verdict vs is (Ok tt) ≡ Ok tt → (next : Verdict) → cut_verdict vs is p tolerance next ≡ unless (numbers_good vs p tolerance) Number next
  unfolding cut_verdict
  cut-mesh h next = mesh-passed vs is h _

  pub cut-no_mesh : (r : Refusal) → mesh_verdict vs is (Ok tt) ≡ Err r → (next : Verdict) → cut_verdict vs is p tolerance next ≡ Err r
  unfolding cut_verdict
  cut-no_mesh r h next = mesh-refused vs is r h _

  cut-told : cut_verdict vs is p tolerance (Ok tt) ≡ Ok tt
      → (shaped_of (length vs) (length is) ≡ true) × (counted_of (length vs) (length is) ≡ true) × (all_below (length vs / 3) is ≡ true) × (numbers_good vs p tolerance ≡ true)
  unfolding cut_verdict mesh_verdict
  cut-told h =
      let a = passed _ _ _ h in
      let b = passed _ _ _ a.1 in
      let c = passed _ _ _ b.1 in
      (a.0, b.0, c.0, (passed _ _ _ c.1).0)

  pub cut-passed : cut_verdict vs is p tolerance (Ok tt) ≡ Ok tt → (next : Verdict) → cut_verdict vs is p tolerance next ≡ next
  unfolding cut_verdict mesh_verdict unless
  cut-passed h next = let t = cut-told h in rw (t.0, t.1, t.2, t.3)

  pub cut-refused : (r : Refusal) → cut_verdict vs is p tolerance (Ok tt) ≡ Err r → (next : Verdict) → cut_verdict vs is p tolerance next ≡ Err r
  unfolding cut_verdict mesh_verdict unless
  cut-refused r h next = go (shaped_of (length vs) (length is)) (counted_of (length vs) (length is)) (all_below (length vs / 3) is) (numbers_good vs p tolerance) h
    where
      go : (a b c d : Bool) → unless a Shape (unless b Count (unless c Vertex (unless d Number (Ok tt)))) ≡ Err r → unless a Shape (unless b Count (unless c Vertex (unless d Number next))) ≡ Err r
      go false b c d e = e
      go true false c d e = e
      go true true false d e = e
      go true true true false e = e
      go true true true true e = cc

  -- a section has its room to test after them
  pub room-last : (room start_room : ℕ) → verdict_of vs is p tolerance room start_room ≡ cut_verdict vs is p tolerance (unless (room_for (length is / 3) room start_room) Room (Ok tt))
  unfolding verdict_of cut_verdict mesh_verdict
  room-last room start_room = refl
