-- `flat_among` meets its contract. The verdict on the faces from f on is that on all.
use mathlib.Core.Path.{◌≡◌}
use Prim.Native.Nat.{◌-◌}
use Rattle.mesh.specs.Meshes.{face_at}
use Rattle.mesh_seen.specs.Seen.{flat_from}
use Rattle.mesh_seen.proofs.flat_among.Given as goal

abbrev pub invariant-loop-f : goal.invariant-loop-f
invariant-loop-f l = flat_from (face_at l.mesh.vertices.now l.mesh.indices.now) l.f (l.n - l.f) ≡ flat_from (face_at l.mesh.vertices.now l.mesh.indices.now) 0 l.n
