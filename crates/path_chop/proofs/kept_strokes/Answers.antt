use borrow.Author.Rules.{rules}
use mathlib.Core.Path.{sym, ap, ◌∙◌}
use mathlib.Core.List.{List}
use native.Mathlib.Omega.{arith}
use lib.ListN.{length, get_or}
use Rattle.vector.specs.declared.Vector.{Vector}
use Rattle.path.specs.Strokes.{point_at}
use Rattle.path.specs.Laid.{non_empty}
use Rattle.path_chop.proofs.Counts.{kept-no, kept-yes, kept-more, kept-less}
use Rattle.path_chop.proofs.Chops.{chopped-more, chopped-none}
use Rattle.path_chop.proofs.kept_strokes.Goals as goal
use Rattle.path_chop.proofs.kept_strokes.Goals.{then-kept, else-kept}

pub loop-j-preserved : goal.loop-j-preserved
loop-j-preserved c =
    let s = get_or c.args.starts.now c.loop-j.j 0 in
    elim c.if-kept.branch [
      | then-kept w ↦ (omega arith, λ step. omega (arith, kept-more step (point_at c.args.points.now) s c.end_of-e.result (chopped-more step c.args.points.now c.args.starts.now c.loop-j.j c.end_of-e.result (search rules) c.end_of-e.ensures) (kept-yes _ (sym c.kept.ensures ∙ w.if-kept.true)), c.loop-j.invariant.1 step))
      | else-kept w ↦ (omega arith, λ step. omega (arith, kept-less step (point_at c.args.points.now) s c.end_of-e.result (chopped-more step c.args.points.now c.args.starts.now c.loop-j.j c.end_of-e.result (search rules) c.end_of-e.ensures) (kept-no _ (sym c.kept.ensures ∙ w.if-kept.false)), c.loop-j.invariant.1 step))
    ]

pub returns : goal.returns
unfolding non_empty
returns c =
    λ step.
    let z = ap (λ (x : List (List Vector)). length (non_empty x)) (chopped-none step c.args.points.now c.args.starts.now c.loop-j.j (search rules)) in
    omega (arith, z, c.loop-j.invariant.1 step)
