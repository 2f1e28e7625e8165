-- `see_in` meets its contract. Storing what is seen of the faces from f on from here leaves what storing all leaves.
use mathlib.Core.Path.{◌≡◌}
use Prim.Native.Nat.{◌-◌}
use lib.ListN.{length}
use Rattle.mesh.specs.Meshes.{face_at}
use Rattle.mesh_seen.specs.Seen.{seen_from}
use Rattle.mesh_seen.proofs.see_in.Given as goal

abbrev pub invariant-loop-f : goal.invariant-loop-f
invariant-loop-f l = (length l.out ≡ length l.initial.out) × (seen_from l.eye (face_at l.mesh.vertices.now l.mesh.indices.now) l.f (l.n - l.f) l.out ≡ seen_from l.eye (face_at l.mesh.vertices.now l.mesh.indices.now) 0 l.n l.initial.out)
