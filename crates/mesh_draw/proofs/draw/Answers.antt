-- `draw` meets its contract.
use mathlib.Core.Path.{sym, ◌∙◌}
use Rattle.std.proofs.lemmas.Result.{err_from_is_err_and}
use Rattle.refusal.proofs.Outcomes.{accept, refuse}
use Rattle.mesh_draw.specs.Call.{draw_left}
use Rattle.mesh_draw.proofs.Modes.{with-err, with-ok}
use Rattle.mesh_draw.proofs.Draws.{granted, drawing_left}
use Rattle.mesh_draw.proofs.draw.Goals as goal

pub returns-in_err-mode : goal.returns-in_err-mode
unfolding draw_left
returns-in_err-mode c =
    let p = err_from_is_err_and c.from_residual.result c.from_residual.ensures.1 in
    rw (p.1, p.2) (refuse _ _ _ _ (sym (with-err _ _ _ (sym c.draw_verdict.ensures ∙ c.in_err-mode.was))))

pub returns : goal.returns
unfolding draw_left
returns c =
    let z = with-ok _ _ _ (sym c.draw_verdict.ensures ∙ c.in_ok-mode.was) in
    accept _ _ _ z.0
    (c.draw_strokes.ensures
    ∙ drawing_left c.args.vertices.now c.args.indices.now c.args.flips.now _ _ c.args.eye c.args.tolerance c.args.scratch.now c.args.seen.now c.args.out_points.now c.args.out_starts.now z.1
    (granted c.args.vertices.now c.args.indices.now _ _ _ z.0))
