use borrow.Author.Rules.{rules}
use mathlib.Core.Path.{sym, ap, ◌∙◌}
use mathlib.Core.List.{List}
use native.Mathlib.Omega.{arith}
use lib.ListN.{length, get_or}
use Rattle.vector.specs.declared.Vector.{Vector}
use Rattle.path.specs.Strokes.{point_at}
use Rattle.path.specs.Laid.{joined}
use Rattle.path_chop.specs.InnerCounts.{capped}
use Rattle.path_chop.proofs.Counts.{joined-count, capped-turn, cap_most, cap_under}
use Rattle.path_chop.proofs.Chops.{chopped-more, chopped-none}
use Rattle.path_chop.proofs.count_strokes.Goals as goal

pub loop-j-preserved : goal.loop-j-preserved
loop-j-preserved c =
    let m = chopped-more c.args.step c.args.points.now c.args.starts.now c.loop-j.j c.end_of-e.result (search rules) c.end_of-e.ensures in
    let j = joined-count c.args.step (point_at c.args.points.now) (get_or c.args.starts.now c.loop-j.j 0) c.end_of-e.result m in
    (rw c.count_stroke-n.ensures (cap_most _), capped-turn c.loop-j.n _ _ _ _ c.count_stroke-n.ensures j ∙ c.loop-j.invariant.1)

pub returns : goal.returns
unfolding joined
returns c =
    let z = chopped-none c.args.step c.args.points.now c.args.starts.now c.loop-j.j (search rules) in
    let zj = ap (λ (x : List (List Vector)). length (joined x)) z in
    sym (cap_under c.loop-j.n (search rules)) ∙ ap capped (omega arith) ∙ c.loop-j.invariant.1
