use mathlib.Core.Path.{◌≡◌, refl, sym, ap, ◌∙◌}
use Prim.Native.Nat.{◌-◌}
use native.Mathlib.Omega.{arith}
use Rattle.path.specs.InnerPushes.{out, push, put_points}
use Rattle.path.proofs.Pushes.{push-turn, push-end}
use Rattle.mesh.specs.Meshes.{face_at}
use Rattle.std.specs.Prelude.{Option}
use Rattle.vector.specs.declared.Vector.{Vector}
use Rattle.mesh_section.specs.Section.{triangle_cut, cut_stroke}
use Rattle.mesh_section.proofs.Faces.{faces_more, faces_none}
use Rattle.mesh_section.proofs.write_faces.Goals as goal

pub loop-f-init : goal.loop-f-init
loop-f-init c = let e : c.args.n - 0 ≡ c.args.n = omega arith in (omega arith, omega arith, refl, refl, rw e)

pub write_cut-p-requires : goal.write_cut-p-requires
write_cut-p-requires c = omega arith

pub loop-f-preserved : goal.loop-f-preserved
loop-f-preserved c =
    let o = out c.loop-f.out_points c.loop-f.out_starts c.loop-f.p in
    let e = c.write_cut-p.ensures.result_after ∙ ap (λ (x : Option (Vector × Vector)). push put_points o (cut_stroke x)) (c.intersect_triangle-c.ensures ∙ ap (triangle_cut c.args.plane c.args.tolerance) c.face.ensures) in
    (omega arith, omega arith, cc, cc, push-turn put_points o _ (faces_more (face_at c.args.mesh.vertices.now c.args.mesh.indices.now) c.args.plane c.args.tolerance c.loop-f.f c.args.n (omega arith)) e ∙ c.loop-f.invariant.4)

pub returns : goal.returns
returns c = sym (push-end put_points _ (faces_none (face_at c.args.mesh.vertices.now c.args.mesh.indices.now) c.args.plane c.args.tolerance c.loop-f.f c.args.n (omega arith))) ∙ c.loop-f.invariant.4
