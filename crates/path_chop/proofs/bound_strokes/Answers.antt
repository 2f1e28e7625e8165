use borrow.Author.Rules.{rules}
use mathlib.Core.Path.{ap, ◌∙◌}
use mathlib.Core.List.{List}
use native.Mathlib.Nat.{le_trans, le_of_eq}
use native.Mathlib.Omega.{arith}
use lib.ListN.{length, get_or}
use Rattle.vector.specs.declared.Vector.{Vector}
use Rattle.path.specs.Strokes.{point_at}
use Rattle.path.specs.Laid.{joined}
use Rattle.path_chop.specs.InnerCounts.{capped}
use Rattle.path_chop.proofs.Counts.{joined-count, cap_under, cap_most}
use Rattle.path_chop.proofs.Chops.{chopped-more, chopped-none}
use Rattle.path_chop.proofs.Bounds.{bound_turn}
use Rattle.path_chop.proofs.bound_strokes.Goals as goal

pub returns-then-n-gt-MOST_POINTS : goal.returns-then-n-gt-MOST_POINTS
returns-then-n-gt-MOST_POINTS c = (cap_most _, omega arith)

pub loop-j-preserved : goal.loop-j-preserved
loop-j-preserved c =
    let m = chopped-more c.args.step c.args.points.now c.args.starts.now c.loop-j.j c.end_of-e.result (search rules) c.end_of-e.ensures in
    let j = joined-count c.args.step (point_at c.args.points.now) (get_or c.args.starts.now c.loop-j.j 0) c.end_of-e.result m in
    (c.bound_stroke-n.ensures.1, bound_turn c.loop-j.n _ _ _ _ _ c.bound_stroke-n.ensures.0 j c.loop-j.invariant.1)

pub returns : goal.returns
unfolding joined
returns c =
    let z = ap (λ (x : List (List Vector)). length (joined x)) (chopped-none c.args.step c.args.points.now c.args.starts.now c.loop-j.j (search rules)) in
    (le_trans c.loop-j.invariant.1 (le_of_eq (ap capped (omega arith) ∙ cap_under c.loop-j.n c.loop-j.invariant.0)), c.loop-j.invariant.0)
