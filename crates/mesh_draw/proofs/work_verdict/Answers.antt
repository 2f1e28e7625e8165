-- `work_verdict` meets its contract.
use mathlib.Core.Path.{sym, ap, ◌∙◌}
use Rattle.std.specs.Prelude.{Ok}
use Rattle.std.proofs.lemmas.Result.{err_from_is_err_and}
use Rattle.refusal.specs.Refusals.{Verdict, unless}
use Rattle.mesh_mode.specs.declared.Mode.{Mode}
use Rattle.mesh_draw.specs.Call.{mode_named, flat_in, work_verdict}
use Rattle.mesh_draw.specs.InnerMode.{with_mode}
use Rattle.mesh_draw.proofs.Modes.{good-mode, bad_mode, mode_known, mode_none, bad-others, bad-named, all_good}
use Rattle.mesh_draw.proofs.work_verdict.Goals as goal

pub returns-then-not-numbers_good : goal.returns-then-not-numbers_good
unfolding work_verdict unless
returns-then-not-numbers_good c =
    let s = c.args.sight in
    simp (bad-others c.args.mesh.vertices.now s (sym c.numbers_good.ensures ∙ c.if-not-numbers_good.true))

pub returns-in_err-mode : goal.returns-in_err-mode
unfolding work_verdict unless
returns-in_err-mode c =
    let s = c.args.sight in
    let p = err_from_is_err_and c.from_residual.result c.from_residual.ensures.1 in
    let b = bad-named c.args.mesh.vertices.now s (bad_mode _ _ _ c.mode_of.ensures _ c.in_err-mode.was) in
    rw (p.1, p.2, mode_none _ _ _ c.mode_of.ensures _ c.in_err-mode.was) (simp b)

pub returns-then-not-scratch_for : goal.returns-then-not-scratch_for
unfolding work_verdict unless
returns-then-not-scratch_for c =
    let s = c.args.sight in
    let g = all_good c.args.mesh.vertices.now s (sym c.numbers_good.ensures ∙ c.if-not-numbers_good.false) (good-mode _ _ _ c.mode_of.ensures _ c.in_ok-mode.was) in
    simp (g, sym c.scratch_for.ensures ∙ c.if-not-scratch_for.true)

pub returns-then-not-room_for : goal.returns-then-not-room_for
unfolding work_verdict unless
returns-then-not-room_for c =
    let s = c.args.sight in
    let g = all_good c.args.mesh.vertices.now s (sym c.numbers_good.ensures ∙ c.if-not-numbers_good.false) (good-mode _ _ _ c.mode_of.ensures _ c.in_ok-mode.was) in
    simp (g, sym c.scratch_for.ensures ∙ c.if-not-scratch_for.false, sym c.room_for.ensures ∙ c.if-not-room_for.true)

pub returns : goal.returns
unfolding work_verdict unless
returns c =
    let s = c.args.sight in
    let g = all_good c.args.mesh.vertices.now s (sym c.numbers_good.ensures ∙ c.if-not-numbers_good.false) (good-mode _ _ _ c.mode_of.ensures _ c.in_ok-mode.was) in
    let k = mode_known _ _ _ c.mode_of.ensures _ c.in_ok-mode.was in
    let e = ap (λ (m : Mode). flat_in m c.args.mesh.vertices.now c.args.mesh.indices.now) c.mode_named.ensures in
    simp (g, sym c.scratch_for.ensures ∙ c.if-not-scratch_for.false, sym c.room_for.ensures ∙ c.if-not-room_for.false) (ap Ok k ∙ ap (λ (v : Verdict). with_mode v (mode_named c.args.sight.number c.args.sight.cosine)) (sym c.in_ok-flat_in.was ∙ c.flat_in.ensures ∙ e))

pub returns-in_err-flat_in : goal.returns-in_err-flat_in
unfolding work_verdict unless
returns-in_err-flat_in c =
    let s = c.args.sight in
    let g = all_good c.args.mesh.vertices.now s (sym c.numbers_good.ensures ∙ c.if-not-numbers_good.false) (good-mode _ _ _ c.mode_of.ensures _ c.in_ok-mode.was) in
    let p = err_from_is_err_and c.from_residual-in_err-flat_in.result c.from_residual-in_err-flat_in.ensures.1 in
    let e = ap (λ (m : Mode). flat_in m c.args.mesh.vertices.now c.args.mesh.indices.now) c.mode_named.ensures in
    rw (p.1, p.2) (simp (g, sym c.scratch_for.ensures ∙ c.if-not-scratch_for.false, sym c.room_for.ensures ∙ c.if-not-room_for.false) (ap (λ (v : Verdict). with_mode v (mode_named c.args.sight.number c.args.sight.cosine)) (sym c.in_err-flat_in.was ∙ c.flat_in.ensures ∙ e)))
