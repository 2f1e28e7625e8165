use borrow.Author.Rules.{rules}
use Rattle.path_chop.proofs.Counts.{count-within, spans-count, cap_over}
use Rattle.path_chop.proofs.Chops.{reach_is, reach_count, spans-none}
use lib.Ieee.{Float}
use Rattle.vector.specs.Lengths.{length_of}
use Rattle.path.specs.Strokes.{point_at, gather}
use Rattle.path_chop.specs.Chop.{too_many, steps_of, spans}
use Rattle.path_chop.specs.InnerCounts.{capped}
use lib.ListN.{length}
use Prim.Native.Nat.{ℕ, ◌+◌, ◌-◌}
use native.Mathlib.Omega.{arith}
use mathlib.Core.Path.{refl, sym, ap, ◌∙◌}
use Rattle.path_chop.proofs.count_spans.Goals as goal

pub returns-then-n-gt-MOST_POINTS : goal.returns-then-n-gt-MOST_POINTS
returns-then-n-gt-MOST_POINTS c = sym (cap_over (c.loop-j.n + _) (omega arith)) ∙ c.loop-j.invariant.1

pub loop-j-preserved : goal.loop-j-preserved
loop-j-preserved c =
    let rest = length (spans too_many c.args.step c.point_at-q.result (gather (point_at c.args.points.now) (c.loop-j.j + 1) (c.args.e - (c.loop-j.j + 1)))) in
    let k = spans-count c.args.step (point_at c.args.points.now) c.loop-j.j c.args.e c.loop-j.p (search rules) _ c.point_at-q.ensures _ c.sub.ensures (length_of c.sub.result) refl in
    let r = reach_is c.args.step _ _ c.sub.result c.length_squared.ensures c.reach-l.ensures in
    let n = c.count_steps.ensures.0 ∙ ap (λ (z : Float). length (steps_of (too_many - c.loop-j.n) z c.args.step c.args.step)) r ∙ reach_count (too_many - c.loop-j.n) c.args.step (length_of c.sub.result) in (
      omega arith,
      ap (λ (x : ℕ). capped (c.loop-j.n + x + 1 + rest)) n ∙ count-within c.loop-j.n rest (length_of c.sub.result) c.args.step (omega arith) ∙ ap capped (omega arith) ∙ c.loop-j.invariant.1,
    )

pub returns : goal.returns
returns c =
    let z = ap length (spans-none c.args.step (point_at c.args.points.now) c.loop-j.j c.args.e c.loop-j.p (search rules)) in
    c.cap.ensures ∙ ap capped (omega arith) ∙ c.loop-j.invariant.1
