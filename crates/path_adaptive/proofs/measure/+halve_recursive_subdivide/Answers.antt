-- `recursive_subdivide` and `halve`, which call each other, meet their contracts: what a span takes is what its halves take.
use Rattle.path_adaptive.proofs.Walks.{walk_ends, walk-stuck, walk-half}
use Rattle.path_adaptive.proofs.Meets.{meets_stop, meets_one, meets_stuck, meets_halves}
use Rattle.path_adaptive.specs.InnerSpan.{shown_at}
use mathlib.Core.Path.{sym, ◌∙◌}
use Rattle.path_adaptive.proofs.measure.+halve_recursive_subdivide.Goals as goal

pub halve-returns-then-depth-eq0 : goal.halve-returns-then-depth-eq0
halve-returns-then-depth-eq0 t c =
    let a = c.args in
    meets_stuck a.left _ c.requires.1 (walk-stuck a.view.now (shown_at a.a a.s) (shown_at a.b a.t) a.depth c.requires.0 c.if-depth-eq0.true)

pub halve-returns-then-after-gt-MOST_POINTS : goal.halve-returns-then-after-gt-MOST_POINTS
halve-returns-then-after-gt-MOST_POINTS t c =
    let a = c.args in
    let h = walk-half a.view.now (shown_at a.a a.s) (shown_at a.b a.t) a.depth c.divider-mid.result c.requires.0 c.if-depth-eq0.false c.divider-mid.ensures in
    meets_halves a.left c.recursive_subdivide-after.result _ _ _ _ h c.recursive_subdivide-after.ensures (meets_stop _ _ c.if-after-gt-MOST_POINTS.true)

pub halve-returns : goal.halve-returns
halve-returns t c =
    let a = c.args in
    let h = walk-half a.view.now (shown_at a.a a.s) (shown_at a.b a.t) a.depth c.divider-mid.result c.requires.0 c.if-depth-eq0.false c.divider-mid.ensures in
    meets_halves a.left c.recursive_subdivide-after.result _ _ _ _ h c.recursive_subdivide-after.ensures c.recursive_subdivide.ensures

pub recursive_subdivide-returns-then-terminator : goal.recursive_subdivide-returns-then-terminator
recursive_subdivide-returns-then-terminator t c =
    let a = c.args in
    meets_one a.left _ a.b _ c.collector.ensures (walk_ends a.view.now (shown_at a.a a.s) (shown_at a.b a.t) a.depth (sym c.terminator.ensures ∙ c.if-terminator.true))
