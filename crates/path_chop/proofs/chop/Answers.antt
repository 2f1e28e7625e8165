-- `chop` meets its contract.
use Rattle.path_chop.proofs.Calls.{chop_accepted}
use Rattle.path_chop.specs.Call.{chop_left}
use Rattle.refusal.proofs.Outcomes.{accept, refuse}
use Rattle.path.proofs.Calls.{wrote_all}
use Rattle.std.proofs.lemmas.Result.{err_from_is_err_and}
use native.Mathlib.Omega.{arith}
use mathlib.Core.Path.{sym, ◌∙◌}
use Rattle.path_chop.proofs.chop.Goals as goal

pub write_strokes-requires : goal.write_strokes-requires
write_strokes-requires c =
    let h = chop_accepted c.args.points.now c.args.starts.now c.args.step _ _ (sym c.chop_verdict.ensures ∙ c.in_ok-chop_verdict.was) in
    omega arith

pub returns-in_err-chop_verdict : goal.returns-in_err-chop_verdict
unfolding chop_left
returns-in_err-chop_verdict c =
    let p = err_from_is_err_and c.from_residual.result c.from_residual.ensures.1 in
    rw (p.1, p.2) (refuse _ _ _ _ (sym c.in_err-chop_verdict.was ∙ c.chop_verdict.ensures))

pub returns : goal.returns
unfolding chop_left
returns c =
    let z = sym c.chop_verdict.ensures ∙ c.in_ok-chop_verdict.was in
    let h = chop_accepted c.args.points.now c.args.starts.now c.args.step _ _ z in
    accept _ _ _ z (wrote_all _ _ c.args.out_points.now c.args.out_starts.now _ c.write_strokes.ensures h.1 h.2)
