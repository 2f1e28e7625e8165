-- `write_faces` meets its contract. Pushing the strokes of the faces from f on from here leaves what pushing all
-- leaves, and so far there are at most a stroke and two points a face.
use mathlib.Core.Path.{◌≡◌}
use Prim.Native.Nat.{◌-◌, ◌*◌, ◌≤◌}
use lib.ListN.{length}
use Rattle.path.specs.InnerPushes.{out, push_all, put_points}
use Rattle.mesh.specs.Meshes.{face_at}
use Rattle.mesh_section.specs.Section.{faces_cut}
use Rattle.mesh_section.proofs.write_faces.Given as goal

abbrev pub invariant-loop-f : goal.invariant-loop-f
invariant-loop-f l = (l.p.points ≤ 2 * l.f) × (l.p.starts ≤ l.f) × (length l.out_points ≡ length l.initial.out_points) × (length l.out_starts ≡ length l.initial.out_starts)
    × (push_all put_points (out l.out_points l.out_starts l.p) (faces_cut (face_at l.mesh.vertices.now l.mesh.indices.now) l.plane l.tolerance l.f (l.n - l.f))
    ≡ push_all put_points (out l.initial.out_points l.initial.out_starts l.initial.p) (faces_cut (face_at l.mesh.vertices.now l.mesh.indices.now) l.plane l.tolerance 0 l.n))
