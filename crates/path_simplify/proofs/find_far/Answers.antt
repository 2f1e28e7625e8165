use borrow.Author.Rules.{rules}
use Rattle.path_simplify.proofs.Thins.{far_turn, far_end}
use Rattle.vector.specs.Lengths.{segment_distance_of}
use Rattle.vector.specs.declared.Vector.{Vector}
use Rattle.path_simplify.proofs.Squares.{start_far, start_rising}
use Rattle.path_simplify.specs.InnerSquares.{far_of, settled_of}
use Rattle.path.specs.Strokes.{point_at}
use Rattle.path_simplify.specs.Simplify.{farthest}
use mathlib.Core.Path.{sym, ap, ◌∙◌}
use Rattle.path_simplify.proofs.find_far.Goals as goal

pub loop-i-init : goal.loop-i-init
loop-i-init c = let lo = c.args.lo in (rw (start_far lo), start_rising lo)

pub loop-i-preserved : goal.loop-i-preserved
loop-i-preserved c =
    let d = ap (λ (x : Vector). segment_distance_of x c.point_in-a.result c.point_in-b.result) c.point_in.ensures in
    (far_turn (point_at c.args.points.now) _ _ (far_of (settled_of c.loop-i.best)) c.loop-i.i c.args.hi (search rules) _ d c.farther-best.ensures.0 ∙ c.loop-i.invariant.0, c.farther-best.ensures.1)

pub returns : goal.returns
unfolding farthest
returns c =
    ap far_of c.settle.ensures ∙ sym (far_end (point_at c.args.points.now) _ _ (far_of (settled_of c.loop-i.best)) c.loop-i.i c.args.hi (search rules)) ∙ c.loop-i.invariant.0
    ∙ rw (c.point_in-a.ensures, c.point_in-b.ensures)
