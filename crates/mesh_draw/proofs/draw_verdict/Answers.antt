-- `draw_verdict` meets its contract.
use mathlib.Core.Path.{sym, ap, ◌∙◌}
use Rattle.std.proofs.lemmas.Result.{err_from_is_err_and}
use Rattle.refusal.specs.Refusals.{Verdict}
use Rattle.mesh.proofs.Tests.{few_faces, mesh-told, mesh-passed, mesh-refused}
use Rattle.mesh_draw.specs.Call.{mode_named}
use Rattle.mesh_draw.specs.InnerMode.{with_mode}
use Rattle.mesh_draw.proofs.Draws.{odd-flips, even_flips}
use Rattle.mesh_draw.proofs.draw_verdict.Goals as goal

pub returns-then-flips-ne0 : goal.returns-then-flips-ne0
returns-then-flips-ne0 c = sym (ap (λ (v : Verdict). with_mode v (mode_named c.args.sight.number c.args.sight.cosine)) (odd-flips _ _ _ _ _ c.if-flips-ne0.true))

pub returns-in_err-mesh_verdict : goal.returns-in_err-mesh_verdict
returns-in_err-mesh_verdict c =
    let p = err_from_is_err_and c.from_residual.result c.from_residual.ensures.1 in
    let e = even_flips _ _ _ _ _ c.if-flips-ne0.false ∙ mesh-refused _ _ _ (sym c.mesh_verdict.ensures ∙ c.in_err-mesh_verdict.was) _ in
    rw (p.1, p.2) (sym (ap (λ (v : Verdict). with_mode v (mode_named c.args.sight.number c.args.sight.cosine)) e))

pub invariant_of-work_verdict : goal.invariant_of-work_verdict
invariant_of-work_verdict c = record { below = (mesh-told _ _ (sym c.mesh_verdict.ensures ∙ c.in_ok-mesh_verdict.was)).2 }

pub work_verdict-requires : goal.work_verdict-requires
work_verdict-requires c = few_faces _ _ (mesh-told _ _ (sym c.mesh_verdict.ensures ∙ c.in_ok-mesh_verdict.was)).1

pub returns : goal.returns
returns c =
    let e = even_flips _ _ _ _ _ c.if-flips-ne0.false ∙ mesh-passed _ _ (sym c.mesh_verdict.ensures ∙ c.in_ok-mesh_verdict.was) _ in
    c.work_verdict.ensures ∙ sym (ap (λ (v : Verdict). with_mode v (mode_named c.args.sight.number c.args.sight.cosine)) e)
