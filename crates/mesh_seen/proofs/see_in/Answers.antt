use mathlib.Core.Path.{◌≡◌, refl, sym, ap, ◌∙◌}
use Prim.Native.Nat.{◌-◌}
use native.Mathlib.Omega.{arith}
use Rattle.mesh.specs.declared.Triangle.{Triangle}
use Rattle.mesh.specs.Meshes.{face_at}
use Rattle.mesh_seen.specs.Seen.{put_seen, seen_from}
use Rattle.mesh_seen.proofs.Faces.{seen_more, seen_none}
use Rattle.mesh_seen.proofs.see_in.Goals as goal

pub loop-f-init : goal.loop-f-init
loop-f-init c = let n = c.args.n in let e : n - 0 ≡ n = omega arith in (refl, rw e)

pub loop-f-preserved : goal.loop-f-preserved
loop-f-preserved c =
    let at = face_at c.args.mesh.vertices.now c.args.mesh.indices.now in
    let e = c.put_seen.ensures ∙ ap (λ (x : Triangle). put_seen c.args.eye x c.loop-f.out c.loop-f.f) c.face.ensures in
    (cc, ap (seen_from c.args.eye at _ _) e ∙ sym (seen_more c.args.eye at c.loop-f.f c.args.n c.loop-f.out (omega arith)) ∙ c.loop-f.invariant.1)

pub shape_of-out : goal.shape_of-out
shape_of-out c = c.loop-f.invariant.0

pub returns : goal.returns
returns c = sym (seen_none c.args.eye (face_at c.args.mesh.vertices.now c.args.mesh.indices.now) c.loop-f.f c.args.n c.loop-f.out (omega arith)) ∙ c.loop-f.invariant.1
