use native.Mathlib.Omega.{arith}
use mathlib.Core.Path.{refl, ◌∙◌}
use lib.ListN.{length}
use Rattle.mesh_keep.specs.Keep.{seen_in}
use Rattle.mesh_strokes.proofs.Walks.{went_none, went_all, next, turn_low, turn_high, turn_below, room_same}
use Rattle.mesh_strokes.proofs.keep_edges.Goals as goal

pub loop-p-init : goal.loop-p-init
loop-p-init c = (omega arith, omega arith, refl, refl, λ flips e. went_none _ _ _ refl)

pub keep_edge-m-requires : goal.keep_edge-m-requires
keep_edge-m-requires c =
    let n = length c.args.indices.now in
    let R = room_same c.args.s.now c.loop-p.s n c.requires.room c.loop-p.invariant.2 in
    let w = c.loop-p.invariant.3 ∙ c.requires.listed.words in
    let h = c.loop-p-test.true in record {
      room = R;
      p_lt_q = (
        turn_low c.args.mode (seen_in c.args.seen.now) c.args.tolerance c.args.indices.now c.loop-p.s c.requires.listed.flips c.loop-p.p _ c.loop-p.m h R w c.edge_end-q.ensures c.loop-p.invariant.1,
        turn_high c.args.mode (seen_in c.args.seen.now) c.args.tolerance c.args.indices.now c.loop-p.s c.requires.listed.flips c.loop-p.p _ c.loop-p.m h R w c.edge_end-q.ensures c.loop-p.invariant.1,
        c.loop-p.invariant.1,
        turn_below c.args.mode (seen_in c.args.seen.now) c.args.tolerance c.args.indices.now c.loop-p.s c.requires.listed.flips c.loop-p.p _ c.loop-p.m h R w c.edge_end-q.ensures c.loop-p.invariant.1,
      );
    }

pub loop-p-smaller : goal.loop-p-smaller
loop-p-smaller c =
    let n = length c.args.indices.now in
    let R = room_same c.args.s.now c.loop-p.s n c.requires.room c.loop-p.invariant.2 in
    let w = c.loop-p.invariant.3 ∙ c.requires.listed.words in
    let h = c.loop-p-test.true in
    omega (arith, h, turn_low c.args.mode (seen_in c.args.seen.now) c.args.tolerance c.args.indices.now c.loop-p.s c.requires.listed.flips c.loop-p.p _ c.loop-p.m h R w c.edge_end-q.ensures c.loop-p.invariant.1)

pub loop-p-preserved : goal.loop-p-preserved
loop-p-preserved c =
    let n = length c.args.indices.now in
    let R = room_same c.args.s.now c.loop-p.s n c.requires.room c.loop-p.invariant.2 in
    let w = c.loop-p.invariant.3 ∙ c.requires.listed.words in
    let h = c.loop-p-test.true in
    let N = next c.args.mode (seen_in c.args.seen.now) c.args.tolerance c.args.indices.now c.loop-p.s c.requires.listed.flips c.loop-p.p _ c.loop-p.m h R w c.edge_end-q.ensures c.loop-p.invariant.1 _ _ c.keep_edge-m.ensures.s_after in
    let low = turn_low c.args.mode (seen_in c.args.seen.now) c.args.tolerance c.args.indices.now c.loop-p.s c.requires.listed.flips c.loop-p.p _ c.loop-p.m h R w c.edge_end-q.ensures c.loop-p.invariant.1 in (
      turn_high c.args.mode (seen_in c.args.seen.now) c.args.tolerance c.args.indices.now c.loop-p.s c.requires.listed.flips c.loop-p.p _ c.loop-p.m h R w c.edge_end-q.ensures c.loop-p.invariant.1,
      omega (arith, N.high, low, c.loop-p.invariant.1),
      N.size ∙ c.loop-p.invariant.2,
      N.front ∙ c.loop-p.invariant.3,
      λ flips f. (next c.args.mode (seen_in c.args.seen.now) c.args.tolerance c.args.indices.now c.loop-p.s flips c.loop-p.p _ c.loop-p.m h R (c.loop-p.invariant.3 ∙ f) c.edge_end-q.ensures c.loop-p.invariant.1 _ _ c.keep_edge-m.ensures.s_after).went (c.loop-p.invariant.4 flips f),
    )

pub shape_of-s : goal.shape_of-s
shape_of-s c = c.loop-p.invariant.2

pub returns : goal.returns
returns c = record { size = c.loop-p.invariant.2; few = omega (arith, c.loop-p.invariant.0, c.loop-p.invariant.1); pairs = λ flips f. went_all _ c.args.indices.now _ c.loop-p.p c.loop-p-test.false (c.loop-p.invariant.4 flips f) }
