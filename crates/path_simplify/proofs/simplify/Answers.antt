-- `simplify` meets its contract.
use Rattle.path_simplify.proofs.Calls.{simplify_accepted}
use Rattle.path_simplify.specs.Call.{simplify_left}
use Rattle.refusal.proofs.Outcomes.{accept, refuse}
use Rattle.path.proofs.Calls.{wrote_all}
use Rattle.std.proofs.lemmas.Result.{err_from_is_err_and}
use native.Mathlib.Omega.{arith}
use mathlib.Core.Path.{sym, ◌∙◌}
use Rattle.path_simplify.proofs.simplify.Goals as goal

pub write_strokes-requires : goal.write_strokes-requires
write_strokes-requires c =
    let h = simplify_accepted c.args.points.now c.args.starts.now c.args.threshold _ _ (sym c.simplify_verdict.ensures ∙ c.in_ok-simplify_verdict.was) in
    (h.few, omega (arith, h.strokes), h.quick, h.table, h.short)

pub returns-in_err-simplify_verdict : goal.returns-in_err-simplify_verdict
unfolding simplify_left
returns-in_err-simplify_verdict c =
    let p = err_from_is_err_and c.from_residual.result c.from_residual.ensures.1 in
    rw (p.1, p.2) (refuse _ _ _ _ (sym c.in_err-simplify_verdict.was ∙ c.simplify_verdict.ensures))

pub returns : goal.returns
unfolding simplify_left
returns c =
    let z = sym c.simplify_verdict.ensures ∙ c.in_ok-simplify_verdict.was in
    let h = simplify_accepted c.args.points.now c.args.starts.now c.args.threshold _ _ z in
    rw c.write_strokes.ensures.1
    (accept _ _ _ z (wrote_all _ _ c.args.out_points.now c.args.out_starts.now _ c.write_strokes.ensures.0 h.fit h.start_fit))
