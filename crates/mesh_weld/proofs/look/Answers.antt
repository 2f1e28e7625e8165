use mathlib.Core.Path.{sym, ◌∙◌, subst}
use mathlib.Core.List.{List, map}
use Prim.Native.Nat.{ℕ, ◌<◌}
use native.Mathlib.Omega.{arith}
use Rattle.mesh_weld.specs.declared.Way.{Way}
use Rattle.mesh_weld.specs.InnerTable.{score_at, onward_of, all_ways, top, About}
use Rattle.mesh_weld.proofs.Coarse.{in_eight}
use Rattle.mesh_weld.proofs.Walks.{Looked, looked_start, looked_on, looked_end, walks-few, lefts, lefts-less}
use Rattle.mesh_weld.proofs.look.Invariants.{homes}
use Rattle.mesh_weld.proofs.Cells.{counted-at}
use Rattle.mesh_weld.proofs.look.Goals as goal

pub overflow_sub-c : goal.overflow_sub-c
overflow_sub-c c = omega (arith, (counted-at c.args.p c.requires.c_value).x_low)

pub overflow_sub-c-2 : goal.overflow_sub-c-2
overflow_sub-c-2 c = omega (arith, (counted-at c.args.p c.requires.c_value).y_low)

pub overflow_sub-c-3 : goal.overflow_sub-c-3
overflow_sub-c-3 c = omega (arith, (counted-at c.args.p c.requires.c_value).z_low)

pub all_begin-w-requires : goal.all_begin-w-requires
all_begin-w-requires c =
    let n = counted-at c.args.p c.requires.c_value in
    record { buckets_in_bounds = omega (arith, c.requires.ready.room); x_bound = (omega (arith, n.x_high), omega (arith, n.y_high), omega (arith, n.z_high)) }

pub loop-g-init : goal.loop-g-init
loop-g-init c = subst (Looked c.args.vertices.now c.args.scratch.now (score_at c.args.vertices.now c.args.p c.args.c) c.args.g.buckets c.args.g.count (homes c.args.c) top top) (sym c.all_begin-w.ensures) (looked_start c.args.vertices.now c.args.scratch.now (score_at c.args.vertices.now c.args.p c.args.c) c.args.g.buckets c.args.g.count c.requires.ready.table (homes c.args.c) top)

pub ahead-requires : goal.ahead-requires
ahead-requires c = walks-few c.args.vertices.now c.args.scratch.now (score_at c.args.vertices.now c.args.p c.args.c) c.args.g.buckets c.args.g.count c.requires.ready.table.older 1048576 c.args.g.small c.loop-g.invariant.walks

pub all_onward-next-requires : goal.all_onward-next-requires
all_onward-next-requires c = record { count_in_bounds = c.requires.ready.room; each = walks-few c.args.vertices.now c.args.scratch.now (score_at c.args.vertices.now c.args.p c.args.c) c.args.g.buckets c.args.g.count c.requires.ready.table.older c.args.g.count (omega arith) c.loop-g.invariant.walks }

pub best_of-best-requires : goal.best_of-best-requires
best_of-best-requires c = record { count_in_bounds = c.requires.ready.points; each = walks-few c.args.vertices.now c.args.scratch.now (score_at c.args.vertices.now c.args.p c.args.c) c.args.g.buckets c.args.g.count c.requires.ready.table.older c.args.g.count (omega arith) c.loop-g.invariant.walks; c_value = (c.requires.c_value, c.loop-g.invariant.below) }

pub loop-g-smaller : goal.loop-g-smaller
loop-g-smaller c =
    subst (λ (ws : List Way). lefts c.args.vertices.now c.args.scratch.now (score_at c.args.vertices.now c.args.p c.args.c) c.args.g.buckets c.args.g.count ws < lefts c.args.vertices.now c.args.scratch.now (score_at c.args.vertices.now c.args.p c.args.c) c.args.g.buckets c.args.g.count (all_ways c.loop-g.w)) (sym c.all_onward-next.ensures)
    (lefts-less c.args.vertices.now c.args.scratch.now (score_at c.args.vertices.now c.args.p c.args.c) c.args.g.buckets c.args.g.count c.requires.ready.table.older c.loop-g.best c.loop-g.invariant.walks (λ e. c.loop-g-test.true (c.ahead.ensures ∙ e)))

pub loop-g-preserved : goal.loop-g-preserved
loop-g-preserved c =
    subst (Looked c.args.vertices.now c.args.scratch.now (score_at c.args.vertices.now c.args.p c.args.c) c.args.g.buckets c.args.g.count (homes c.args.c) top c.best_of-best.result) (sym c.all_onward-next.ensures)
    (subst (λ (r : ℕ). Looked c.args.vertices.now c.args.scratch.now (score_at c.args.vertices.now c.args.p c.args.c) c.args.g.buckets c.args.g.count (homes c.args.c) top r (map (onward_of c.args.scratch.now c.args.g.buckets) (all_ways c.loop-g.w))) (sym c.best_of-best.ensures)
    (looked_on c.args.vertices.now c.args.scratch.now (score_at c.args.vertices.now c.args.p c.args.c) c.args.g.buckets c.args.g.count c.requires.ready.table.older (homes c.args.c) top c.loop-g.best (all_ways c.loop-g.w) c.loop-g.invariant))

pub returns : goal.returns
returns c =
    let n = counted-at c.args.p c.requires.c_value in
    looked_end c.args.vertices.now c.args.scratch.now (score_at c.args.vertices.now c.args.p c.args.c) c.args.g.buckets c.args.g.count (homes c.args.c) top c.loop-g.best (all_ways c.loop-g.w) c.loop-g.invariant (sym c.ahead.ensures ∙ c.loop-g-test.false) (About c.args.vertices.now c.args.c)
    (λ i h. in_eight c.args.vertices.now c.args.c i n.x_low n.y_low n.z_low h)
