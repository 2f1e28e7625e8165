use mathlib.Core.Path.{sym, ◌∙◌}
use Rattle.stl_write.proofs.Corners.{number_wide, number_held, number_end}
use Rattle.stl_write.proofs.all_exact.Goals as goal

pub returns-then-not-is_single : goal.returns-then-not-is_single
returns-then-not-is_single c = number_wide c.args.vertices.now c.loop-x.x-index c.requires c.loop-x-test.true _ c.is_single.ensures c.if-not-is_single.true ∙ c.loop-x.invariant

pub loop-x-preserved : goal.loop-x-preserved
loop-x-preserved c =
    let t = c.loop-x-test.true in
    number_held c.args.vertices.now c.loop-x.x-index c.requires t _ c.is_single.ensures c.if-not-is_single.false ∙ c.loop-x.invariant

pub returns : goal.returns
returns c = sym (number_end c.args.vertices.now c.loop-x.x-index c.loop-x-test.false) ∙ c.loop-x.invariant
