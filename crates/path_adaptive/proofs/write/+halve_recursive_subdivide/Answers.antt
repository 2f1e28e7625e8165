-- `recursive_subdivide` and `halve`, which call each other, meet their contracts: what a span writes is what its halves write.
use lib.ListN.{length}
use Rattle.path_adaptive.specs.Walk.{Walk}
use Rattle.path_adaptive.proofs.Walks.{walk_ends, walk-stuck, walk-half, half-both}
use Rattle.path_adaptive.proofs.Inks.{inks_are, left-fits, right_fits, both_inks}
use Rattle.path_adaptive.specs.InnerSpan.{shown_at}
use native.Mathlib.Omega.{arith}
use mathlib.Core.Bool.{true≢false}
use mathlib.Core.Path.{refl, sym, ap, ◌∙◌}
use Rattle.path_adaptive.proofs.write.+halve_recursive_subdivide.Goals as goal

pub halve-returns-then-depth-eq0 : goal.halve-returns-then-depth-eq0
halve-returns-then-depth-eq0 t c =
    let a = c.args in
    let w = walk-stuck a.view.now (shown_at a.a a.s) (shown_at a.b a.t) a.depth c.requires.0 c.if-depth-eq0.true in
    absurd (true≢false (sym (ap (λ (x : Walk). x.deep) w) ∙ c.requires.1.calm))

pub halve-recursive_subdivide-left-requires : goal.halve-recursive_subdivide-left-requires
halve-recursive_subdivide-left-requires t c =
    let a = c.args in
    let h = walk-half a.view.now (shown_at a.a a.s) (shown_at a.b a.t) a.depth c.divider-mid.result c.requires.0 c.if-depth-eq0.false c.divider-mid.ensures in
    let both = half-both _ _ _ h c.requires.1.calm in
    (omega (arith, c.if-depth-eq0.false), left-fits both refl refl c.requires.1)

pub halve-recursive_subdivide-requires : goal.halve-recursive_subdivide-requires
halve-recursive_subdivide-requires t c =
    let a = c.args in
    let h = walk-half a.view.now (shown_at a.a a.s) (shown_at a.b a.t) a.depth c.divider-mid.result c.requires.0 c.if-depth-eq0.false c.divider-mid.ensures in
    let both = half-both _ _ _ h c.requires.1.calm in
    (omega (arith, c.if-depth-eq0.false), right_fits both refl refl c.requires.1 c.recursive_subdivide-left.ensures)

pub halve-returns : goal.halve-returns
halve-returns t c =
    let a = c.args in
    let h = walk-half a.view.now (shown_at a.a a.s) (shown_at a.b a.t) a.depth c.divider-mid.result c.requires.0 c.if-depth-eq0.false c.divider-mid.ensures in
    let both = half-both _ _ _ h c.requires.1.calm in
    both_inks both refl refl c.recursive_subdivide-left.ensures c.recursive_subdivide.ensures

pub recursive_subdivide-collector-requires : goal.recursive_subdivide-collector-requires
recursive_subdivide-collector-requires t c =
    let a = c.args in
    let short = walk_ends a.view.now (shown_at a.a a.s) (shown_at a.b a.t) a.depth (sym c.terminator.ensures ∙ c.if-terminator.true) in
    omega (arith, c.requires.few, ap (λ (x : Walk). length x.points) short)

pub recursive_subdivide-returns-then-terminator : goal.recursive_subdivide-returns-then-terminator
recursive_subdivide-returns-then-terminator t c =
    let a = c.args in
    let short = walk_ends a.view.now (shown_at a.a a.s) (shown_at a.b a.t) a.depth (sym c.terminator.ensures ∙ c.if-terminator.true) in
    inks_are short c.collector.ensures
