-- `section_verdict` meets its contract: the room is tested last.
use mathlib.Core.Path.{sym, ◌∙◌}
use Rattle.std.proofs.lemmas.Result.{err_from_is_err_and}
use Rattle.refusal.specs.Refusals.{unless}
use Rattle.mesh_section.proofs.Verdicts.{cut-passed, cut-refused, room-last}
use Rattle.mesh_section.proofs.section_verdict.Goals as goal

pub returns-in_err-cut_verdict : goal.returns-in_err-cut_verdict
returns-in_err-cut_verdict c =
    let p = err_from_is_err_and c.from_residual.result c.from_residual.ensures.1 in
    rw (p.1, p.2) (sym (room-last _ _ _ _ _ _ ∙ cut-refused _ _ _ _ _ (sym c.cut_verdict.ensures ∙ c.in_err-cut_verdict.was) _))

pub returns-then-not-room_for : goal.returns-then-not-room_for
unfolding unless
returns-then-not-room_for c =
    sym (room-last _ _ _ _ _ _ ∙ cut-passed _ _ _ _ (sym c.cut_verdict.ensures ∙ c.in_ok-cut_verdict.was) _ ∙ (rw (sym c.room_for.ensures ∙ c.if-not-room_for.true)))

pub returns : goal.returns
unfolding unless
returns c =
    sym (room-last _ _ _ _ _ _ ∙ cut-passed _ _ _ _ (sym c.cut_verdict.ensures ∙ c.in_ok-cut_verdict.was) _ ∙ (rw (sym c.room_for.ensures ∙ c.if-not-room_for.false)))
