use Rattle.std.specs.Prelude.{Ok}
use mathlib.Core.Path.{◌≡◌, sym, ap, ◌∙◌}
use Prim.Native.Nat.{◌-◌}
use native.Mathlib.Omega.{arith}
use Rattle.mesh.specs.declared.Triangle.{Triangle}
use Rattle.mesh.specs.Meshes.{face_at}
use Rattle.mesh_seen.specs.Normals.{flat_of}
use Rattle.mesh_seen.specs.Seen.{face_verdict}
use Rattle.mesh_seen.proofs.Faces.{flat-more, flat-found, flat-none}
use Rattle.mesh_seen.proofs.flat_among.Goals as goal

pub loop-f-init : goal.loop-f-init
loop-f-init c = let n = c.args.n in let e : n - 0 ≡ n = omega arith in rw e

pub returns-then-is_flat : goal.returns-then-is_flat
returns-then-is_flat c =
    let at = face_at c.args.mesh.vertices.now c.args.mesh.indices.now in
    let t = c.face-t.ensures in
    let e = ap flat_of (sym t) ∙ sym c.is_flat.ensures ∙ c.if-is_flat.true in
    c.face_verdict.ensures ∙ ap (λ (x : Triangle). face_verdict x c.loop-f.f (Ok tt)) t
    ∙ sym (flat-found at c.loop-f.f c.args.n (omega arith) e) ∙ c.loop-f.invariant

pub loop-f-preserved : goal.loop-f-preserved
loop-f-preserved c =
    let at = face_at c.args.mesh.vertices.now c.args.mesh.indices.now in
    let e = ap flat_of (sym c.face-t.ensures) ∙ sym c.is_flat.ensures ∙ c.if-is_flat.false in
    sym (flat-more at c.loop-f.f c.args.n (omega arith) e) ∙ c.loop-f.invariant

pub returns : goal.returns
returns c = sym (flat-none (face_at c.args.mesh.vertices.now c.args.mesh.indices.now) c.loop-f.f c.args.n (omega arith)) ∙ c.loop-f.invariant
