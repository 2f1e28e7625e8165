-- `write_faces` meets its contract. Storing the faces from the f-th on from here leaves what storing all leaves.
use mathlib.Core.Path.{◌≡◌}
use Prim.Native.Nat.{◌-◌, ◌*◌}
use lib.ListN.{drop}
use lib.Seq.{sets}
use Rattle.mesh.specs.Meshes.{gathered}
use Rattle.stl.specs.Files.{face_numbers, size_of, faces_of}
use Rattle.stl_write.proofs.write_faces.Given as goal

abbrev pub invariant-loop-f : goal.invariant-loop-f
invariant-loop-f l = sets l.out (size_of l.f) (faces_of (l.n - l.f) (drop (face_numbers * l.f) (gathered l.mesh.vertices.now l.mesh.indices.now))) ≡ sets l.initial.out (size_of 0) (faces_of l.n (gathered l.mesh.vertices.now l.mesh.indices.now))
