use Rattle.std.proofs.Common.{arith, refl, ◌∙◌}
use Rattle.mesh_edges.proofs.Flipping.{flagging, flagging_more, flagging_all}
use Rattle.mesh_edges.proofs.walk_flips.Goals as goal

pub loop-pair-init : goal.loop-pair-init
loop-pair-init c = rw (c.into_iter-pair-iterator.ensures.into_iter_gives, c.chunks_exact-pair-items.ensures.size, c.chunks_exact-pair-items.ensures.rest) (refl, flagging c.args.s.now c.args.n c.requires c.args.flips.now)

pub loop-pair-preserved : goal.loop-pair-preserved
loop-pair-preserved c =
    let e = (c.in-Some.ensures).steps in
    (e.0 ∙ c.loop-pair.invariant.0, flagging_more c.args.s.now c.args.n c.requires c.args.flips.now c.loop-pair.s _ c.loop-pair.invariant.1 c.in-Some.pair.now _ e.1.0 (e.1.1 ∙ c.loop-pair.invariant.0) c.flag_pair.new.s c.flag_pair.ensures)

pub returns : goal.returns
returns c =
    let e = (c.in-None.ensures).steps in
    flagging_all c.args.s.now c.args.n c.requires c.args.flips.now c.loop-pair.s _ c.loop-pair.invariant.1 (omega (arith, e.1.0, c.loop-pair.invariant.0))
