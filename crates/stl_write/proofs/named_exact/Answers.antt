use mathlib.Core.Path.{sym, ◌∙◌}
use Rattle.stl_write.proofs.Corners.{corner_wide, corner_held, corner_end}
use Rattle.stl_write.proofs.named_exact.Goals as goal

pub returns-then-not-is_exact : goal.returns-then-not-is_exact
returns-then-not-is_exact c =
    let t = c.loop-k-test.true in
    corner_wide c.args.mesh.vertices.now c.args.mesh.indices.now c.loop-k.k c.requires c.args.mesh.below t _ _ c.corner.ensures c.is_exact.ensures c.if-not-is_exact.true ∙ c.loop-k.invariant

pub loop-k-preserved : goal.loop-k-preserved
loop-k-preserved c =
    let t = c.loop-k-test.true in
    corner_held c.args.mesh.vertices.now c.args.mesh.indices.now c.loop-k.k c.requires c.args.mesh.below t _ _ c.corner.ensures c.is_exact.ensures c.if-not-is_exact.false ∙ c.loop-k.invariant

pub returns : goal.returns
returns c = sym (corner_end c.args.mesh.vertices.now c.args.mesh.indices.now c.loop-k.k c.loop-k-test.false) ∙ c.loop-k.invariant
