use mathlib.Core.Path.{sym, ◌∙◌}
use Rattle.mesh.specs.Meshes.{gathered}
use Rattle.stl.specs.Files.{size_of}
use Rattle.stl.proofs.Written.{face-end}
use Rattle.stl_write.proofs.Calls.{put-turn}
use Rattle.stl_write.proofs.write_faces.Goals as goal

pub loop-f-preserved : goal.loop-f-preserved
loop-f-preserved c =
    let t = c.loop-f-test.true in
    put-turn c.args.mesh.vertices.now c.args.mesh.indices.now c.args.n c.loop-f.f c.requires t _ c.face-t.ensures c.loop-f.out _ c.put_face.ensures ∙ c.loop-f.invariant

pub returns : goal.returns
returns c = sym (face-end (gathered c.args.mesh.vertices.now c.args.mesh.indices.now) c.args.n c.loop-f.f c.loop-f-test.false c.loop-f.out (size_of c.loop-f.f)) ∙ c.loop-f.invariant
