use native.Mathlib.Omega.{arith}
use mathlib.Core.Path.{refl, ◌∙◌}
use Rattle.mesh_edges.proofs.Mating.{mating, m-below, end_after, end-within, mating-more, mating-all}
use Rattle.mesh_edges.proofs.write_mates.Goals as goal

pub loop-p-init : goal.loop-p-init
loop-p-init c = (omega arith, refl, mating c.args.s.now c.args.n c.requires.n_in_bounds.0 c.requires.below)

pub mate-requires : goal.mate-requires
mate-requires c =
    let h = c.loop-p-test.true in
    let u = end_after c.args.s.now c.args.n c.requires.n_in_bounds.0 c.requires.below c.loop-p.s c.loop-p.p c.loop-p.invariant.2 h in
    let v = end-within c.args.s.now c.args.n c.requires.n_in_bounds.0 c.requires.below c.loop-p.s c.loop-p.p c.loop-p.invariant.2 h in
    record { n_in_bounds = omega (arith, c.requires.n_in_bounds, c.loop-p.invariant.1, c.edge_end-q.ensures); below = m-below c.args.s.now c.args.n c.requires.n_in_bounds.0 c.requires.below c.loop-p.s c.loop-p.p c.loop-p.invariant.2 }

pub loop-p-smaller : goal.loop-p-smaller
loop-p-smaller c =
    let h = c.loop-p-test.true in
    let u = end_after c.args.s.now c.args.n c.requires.n_in_bounds.0 c.requires.below c.loop-p.s c.loop-p.p c.loop-p.invariant.2 h in
    omega (arith, h, c.edge_end-q.ensures)

pub loop-p-preserved : goal.loop-p-preserved
loop-p-preserved c =
    let h = c.loop-p-test.true in
    let v = end-within c.args.s.now c.args.n c.requires.n_in_bounds.0 c.requires.below c.loop-p.s c.loop-p.p c.loop-p.invariant.2 h in
    (omega (arith, c.edge_end-q.ensures), c.mate.auto.s ∙ c.loop-p.invariant.1, mating-more c.args.s.now c.args.n c.requires.n_in_bounds.0 c.requires.below c.loop-p.s c.loop-p.p c.loop-p.invariant.2 h c.edge_end-q.result c.edge_end-q.ensures c.mate.new.s c.mate.ensures)

pub returns : goal.returns
returns c = mating-all c.args.s.now c.args.n c.requires.n_in_bounds.0 c.requires.below c.loop-p.s c.loop-p.p c.loop-p.invariant.2 (omega (arith, c.loop-p.invariant.0))
