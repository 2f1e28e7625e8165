-- `splice` meets its contract.
use mathlib.Core.Path.{sym, ap, ◌∙◌}
use Prim.Native.Nat.{ℕ}
use lib.ListN.{length, replicate}
use Rattle.std.proofs.lemmas.Result.{err_from_is_err_and}
use Rattle.path_splice.specs.Call.{splice_left}
use Rattle.refusal.proofs.Outcomes.{accept, refuse}
use Rattle.path_splice.proofs.Answers.{granted, wrote}
use Rattle.path_splice.proofs.splice.Goals as goal

pub returns-in_err-splice_verdict : goal.returns-in_err-splice_verdict
unfolding splice_left
returns-in_err-splice_verdict c =
    let p = err_from_is_err_and c.from_residual.result c.from_residual.ensures.1 in
    rw (p.1, p.2) (refuse _ _ _ _ (sym c.in_err-splice_verdict.was ∙ c.splice_verdict.ensures))

pub invariant_of-strokes : goal.invariant_of-strokes
invariant_of-strokes c = record { good = (granted c.args.points.now c.args.starts.now (length c.args.scratch.now) (length c.args.out_points.now) (length c.args.out_starts.now) (sym c.splice_verdict.ensures ∙ c.in_ok-splice_verdict.was)).0 }

pub draw-p-requires : goal.draw-p-requires
draw-p-requires c =
    let g = granted c.args.points.now c.args.starts.now (length c.args.scratch.now) (length c.args.out_points.now) (length c.args.out_starts.now) (sym c.splice_verdict.ensures ∙ c.in_ok-splice_verdict.was) in
    (g.1, g.2, g.3, g.4, g.5)

pub returns : goal.returns
unfolding splice_left
returns c =
    let y = sym c.splice_verdict.ensures ∙ c.in_ok-splice_verdict.was in
    accept _ _ _ y (wrote _ _ _ c.args.out_points.now c.args.out_starts.now _ _ _ _ (c.clear.ensures ∙ ap (λ (n : ℕ). replicate n 0) c.draw-p.auto.s) c.draw-p.ensures)
