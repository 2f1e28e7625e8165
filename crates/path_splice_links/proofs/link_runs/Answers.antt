use native.Mathlib.Omega.{arith}
use mathlib.Core.Path.{refl, ◌∙◌}
use Rattle.path_splice_links.proofs.Mirroring.{links-none, reach-in, ends_low, ends-apart, links-more}
use Rattle.path_splice_links.proofs.link_runs.Goals as goal

pub loop-p-init : goal.loop-p-init
loop-p-init c =
    let k = links-none c.args.s.now c.args.n c.args.c c.requires.n_in_bounds.0 c.requires.n_in_bounds.2 c.requires.ranked in
    (omega arith, refl, k)

pub mirror_run-requires-clause-by_index : goal.mirror_run-requires-clause-by_index
mirror_run-requires-clause-by_index c = ends_low c.args.s.now c.args.n c.args.c c.requires.n_in_bounds.0 c.requires.n_in_bounds.2 c.requires.ranked c.loop-p.s c.loop-p.p c.loop-p.invariant.2 c.reach-q.result c.reach-q.ensures

pub mirror_run-requires-clause-by_index_2 : goal.mirror_run-requires-clause-by_index_2
mirror_run-requires-clause-by_index_2 c = ends-apart c.args.s.now c.args.n c.args.c c.requires.n_in_bounds.0 c.requires.n_in_bounds.2 c.requires.ranked c.loop-p.s c.loop-p.p c.loop-p.invariant.2 c.reach-q.result c.reach-q.ensures

pub loop-p-preserved : goal.loop-p-preserved
loop-p-preserved c =
    let q = c.reach-q.result in
    let k = links-more c.args.s.now c.args.n c.args.c c.requires.n_in_bounds.0 c.requires.n_in_bounds.2 c.requires.ranked c.loop-p.s c.loop-p.p c.loop-p.invariant.2 q c.reach-q.ensures c.mirror_run.new.s c.mirror_run.ensures in
    (reach-in c.args.s.now c.args.n c.args.c c.requires.n_in_bounds.0 c.requires.n_in_bounds.2 c.requires.ranked c.loop-p.s c.loop-p.p c.loop-p.invariant.2 q c.reach-q.ensures, c.mirror_run.auto.s ∙ c.loop-p.invariant.1, k)
