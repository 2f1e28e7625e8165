use borrow.Author.Rules.{rules}
use Rattle.path_adaptive.specs.Tally.{Tally}
use Rattle.path.specs.Strokes.{point_at, gather}
use Rattle.path_adaptive.proofs.Walks.{from_more, from-none}
use Rattle.path_adaptive.proofs.Tallies.{spent-none, spent-join}
use Rattle.path_adaptive.specs.Tally.{spent}
use Rattle.path_adaptive.specs.Walk.{shown_of, walk_from}
use Rattle.path_adaptive.specs.InnerMeasure.{tally_of}
use Prim.Native.Nat.{◌+◌, ◌-◌}
use mathlib.Core.Path.{sym, ap, ◌∙◌}
use Rattle.path_adaptive.proofs.measure.measure_spans.Goals as goal

pub loop-j-preserved : goal.loop-j-preserved
loop-j-preserved c =
    λ s. let q = c.show-q.result in
    let t = tally_of c.loop-j.k s in
    let m = from_more c.args.view.now (point_at c.args.points.now) c.loop-j.j c.args.e c.loop-j.p q (search rules) (c.show-q.ensures ∙ ap (shown_of c.args.view.now) c.point_at.ensures) in
    let r = walk_from c.args.view.now q (gather (point_at c.args.points.now) (c.loop-j.j + 1) (c.args.e - (c.loop-j.j + 1))) in
    ap (λ (x : Tally). spent x r) (c.measure_span-k.ensures s) ∙ spent-join t _ r _ m ∙ c.loop-j.invariant s

pub returns : goal.returns
returns c =
    λ s. let t = tally_of c.loop-j.k s in
    sym (spent-none t) ∙ ap (spent t) (sym (from-none c.args.view.now (point_at c.args.points.now) c.loop-j.j c.args.e c.loop-j.p (search rules))) ∙ c.loop-j.invariant s
