-- `bound_stroke` meets its contract: no span has more steps than the longest, so all have no more than as many times that.
use mathlib.Core.Path.{◌≡◌, sym, ap, ◌∙◌}
use native.Mathlib.Nat.{le_of_eq}
use native.Mathlib.Omega.{arith}
use Prim.Native.Nat.{◌+◌, ◌-◌}
use lib.ListN.{length}
use lib.Ieee.{Float}
use Rattle.path.specs.Strokes.{point_at, gather}
use Rattle.path_chop.specs.Chop.{too_many, steps_of, chopped}
use Rattle.path_chop.specs.InnerCounts.{capped}
use Rattle.path_chop.proofs.Counts.{kept-no, kept-yes, cap_under, cap_most}
use Rattle.path_chop.proofs.Chops.{reach_count, stroke_short, chopped-length}
use Rattle.path_chop.proofs.Bounds.{stroke_bound}
use Rattle.path_chop.proofs.bound_stroke.Goals as goal

pub returns-then-not-kept : goal.returns-then-not-kept
returns-then-not-kept c =
    let z = stroke_short c.args.step (point_at c.args.points.now) c.args.a c.args.e (kept-no (c.args.e - c.args.a) (sym c.kept.ensures ∙ c.if-not-kept.true)) in
    let k : c.args.so_far + length (chopped too_many c.args.step (gather (point_at c.args.points.now) c.args.a (c.args.e - c.args.a))) ≡ c.args.so_far = omega arith in
    (le_of_eq (ap capped k ∙ cap_under c.args.so_far c.requires), c.requires)

pub returns-then-n-k : goal.returns-then-n-k
returns-then-n-k c = (cap_most _, omega arith)

pub returns : goal.returns
returns c =
    let two = kept-yes (c.args.e - c.args.a) (sym c.kept.ensures ∙ c.if-not-kept.false) in
    let l = chopped-length c.args.step (point_at c.args.points.now) c.args.a c.args.e (omega arith) _ c.point_at.ensures in
    let m = c.longest-most.ensures c.args.step in
    let n = c.count_steps-n.ensures.0 ∙ ap (λ (z : Float). length (steps_of (too_many - c.args.so_far) z c.args.step c.args.step)) c.reach.ensures ∙ reach_count (too_many - c.args.so_far) c.args.step _ in
    rw c.cap.ensures (stroke_bound c.args.so_far _ _ _ _ _ c.args.step c.requires (omega arith) l m n, cap_most _)
