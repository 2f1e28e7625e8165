use mathlib.Core.Path.{◌≡◌, refl, sym, ◌∙◌}
use Prim.Native.Nat.{◌-◌}
use native.Mathlib.Omega.{arith}
use Rattle.mesh_contour_rule.specs.Contour.{corner_of}
use Rattle.mesh_contour.proofs.Segments.{put-turn, put-end}
use Rattle.mesh_contour.proofs.put_segments.Goals as goal

pub loop-f-init : goal.loop-f-init
loop-f-init c = let n = c.args.n in let e : n - 0 ≡ n = omega arith in (omega arith, refl, rw e, rw e (omega arith))

pub put_segment-k-requires : goal.put_segment-k-requires
put_segment-k-requires c = omega (arith, c.loop-f.invariant.0, c.requires.n_le_most_faces)

pub loop-f-preserved : goal.loop-f-preserved
loop-f-preserved c =
    let p = put-turn (corner_of c.args.plane c.args.tolerance c.args.mesh.vertices.now c.args.mesh.indices.now) c.loop-f.f c.args.n c.loop-f.k _ c.loop-f.out _ _ (omega arith) c.cut_in-c.ensures c.put_segment-k.ensures.0 c.put_segment-k.ensures.1 in
    (omega (arith, c.put_segment-k.ensures.2, c.loop-f.invariant.0), cc, p.0 ∙ c.loop-f.invariant.2, p.1 ∙ c.loop-f.invariant.3)

pub returns : goal.returns
returns c =
    let p = put-end (corner_of c.args.plane c.args.tolerance c.args.mesh.vertices.now c.args.mesh.indices.now) c.loop-f.f c.args.n c.loop-f.k c.loop-f.out (omega arith) in
    (sym p.0 ∙ c.loop-f.invariant.2, sym p.1 ∙ c.loop-f.invariant.3)
