-- `write_verdict` meets its contract: the mesh's tests come first.
use mathlib.Core.Path.{sym, ◌∙◌}
use Rattle.std.proofs.lemmas.Result.{err_from_is_err_and}
use Rattle.refusal.specs.Refusals.{unless}
use Rattle.mesh.proofs.Tests.{few_faces, mesh-told, mesh-passed, mesh-refused}
use Rattle.stl_write.proofs.Calls.{mesh-first}
use Rattle.stl_write.proofs.write_verdict.Goals as goal

pub returns-in_err-mesh_verdict : goal.returns-in_err-mesh_verdict
returns-in_err-mesh_verdict c =
    let p = err_from_is_err_and c.from_residual.result c.from_residual.ensures.1 in
    rw (p.1, p.2) (sym (mesh-first _ _ _ ∙ mesh-refused _ _ _ (sym c.mesh_verdict.ensures ∙ c.in_err-mesh_verdict.was) _))

pub invariant_of-numbers_good : goal.invariant_of-numbers_good
invariant_of-numbers_good c = record { below = (mesh-told _ _ (sym c.mesh_verdict.ensures ∙ c.in_ok-mesh_verdict.was)).2 }

pub room_for-requires : goal.room_for-requires
room_for-requires c = few_faces _ _ (mesh-told _ _ (sym c.mesh_verdict.ensures ∙ c.in_ok-mesh_verdict.was)).1

pub returns-then-not-numbers_good : goal.returns-then-not-numbers_good
unfolding unless
returns-then-not-numbers_good c =
    sym (mesh-first _ _ _ ∙ mesh-passed _ _ (sym c.mesh_verdict.ensures ∙ c.in_ok-mesh_verdict.was) _ ∙ (rw (sym c.numbers_good.ensures ∙ c.if-not-numbers_good.true)))

pub returns-then-not-room_for : goal.returns-then-not-room_for
unfolding unless
returns-then-not-room_for c =
    sym (mesh-first _ _ _ ∙ mesh-passed _ _ (sym c.mesh_verdict.ensures ∙ c.in_ok-mesh_verdict.was) _
    ∙ (rw (sym c.numbers_good.ensures ∙ c.if-not-numbers_good.false, sym c.room_for.ensures ∙ c.if-not-room_for.true)))

pub returns : goal.returns
unfolding unless
returns c =
    sym (mesh-first _ _ _ ∙ mesh-passed _ _ (sym c.mesh_verdict.ensures ∙ c.in_ok-mesh_verdict.was) _
    ∙ (rw (sym c.numbers_good.ensures ∙ c.if-not-numbers_good.false, sym c.room_for.ensures ∙ c.if-not-room_for.false)))
