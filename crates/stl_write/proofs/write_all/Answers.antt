-- `write_all` meets its contract: head and faces are the file.
use mathlib.Core.Path.{refl}
use Prim.Native.Nat.{◌/◌}
use lib.ListN.{length}
use Rattle.mesh.specs.Meshes.{gathered}
use Rattle.stl.proofs.Written.{all_put}
use Rattle.stl_write.proofs.Calls.{all_gathered}
use Rattle.stl_write.proofs.write_all.Goals as goal

pub write_faces-requires : goal.write_faces-requires
write_faces-requires c = c.requires.0

pub returns : goal.returns
returns c =
    let n = length c.args.mesh.indices.now / 3 in
    let l = all_gathered c.args.mesh.vertices.now c.args.mesh.indices.now n c.requires.0 in
    record { out_after = all_put (gathered c.args.mesh.vertices.now c.args.mesh.indices.now) n l c.args.out.now _ _ c.put_head.ensures c.write_faces.ensures; value = refl }
