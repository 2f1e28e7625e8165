-- `named_exact` meets its contract. What there is to say of the corners from the k-th on is what there is to say of
-- all.
use mathlib.Core.Path.{◌≡◌}
use lib.ListN.{drop}
use Rattle.mesh.specs.Meshes.{gathered}
use Rattle.stl.specs.Files.{all_single}
use Rattle.stl_write.proofs.named_exact.Given as goal

abbrev pub invariant-loop-k : goal.invariant-loop-k
invariant-loop-k l = all_single (gathered l.mesh.vertices.now (drop l.k l.mesh.indices.now)) ≡ all_single (gathered l.mesh.vertices.now l.mesh.indices.now)
