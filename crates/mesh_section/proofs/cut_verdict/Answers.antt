-- `cut_verdict` meets its contract.
use mathlib.Core.Path.{sym, ◌∙◌}
use Rattle.std.specs.Prelude.{Ok}
use Rattle.std.proofs.lemmas.Result.{err_from_is_err_and}
use Rattle.refusal.specs.Refusals.{unless}
use Rattle.mesh_section.proofs.Verdicts.{cut-mesh, cut-no_mesh}
use Rattle.mesh_section.proofs.cut_verdict.Goals as goal

pub returns-in_err-mesh_verdict : goal.returns-in_err-mesh_verdict
returns-in_err-mesh_verdict c =
    let p = err_from_is_err_and c.from_residual.result c.from_residual.ensures.1 in
    rw (p.1, p.2) (sym (cut-no_mesh _ _ _ _ _ (sym c.mesh_verdict.ensures ∙ c.in_err-mesh_verdict.was) _))

pub returns-then-not-numbers_good : goal.returns-then-not-numbers_good
unfolding unless
returns-then-not-numbers_good c =
    rw (
      cut-mesh c.args.vertices.now c.args.indices.now c.args.plane c.args.tolerance (sym c.mesh_verdict.ensures ∙ c.in_ok-mesh_verdict.was) (Ok tt),
      sym c.numbers_good.ensures ∙ c.if-not-numbers_good.true,
    )

pub returns : goal.returns
unfolding unless
returns c =
    rw (
      cut-mesh c.args.vertices.now c.args.indices.now c.args.plane c.args.tolerance (sym c.mesh_verdict.ensures ∙ c.in_ok-mesh_verdict.was) (Ok tt),
      sym c.numbers_good.ensures ∙ c.if-not-numbers_good.false,
    )
