-- `write_stl` meets its contract: a refusal leaves all as it was, and an accepted call writes the whole file.
use mathlib.Core.Path.{sym, ◌∙◌}
use Rattle.refusal.proofs.Outcomes.{accept, refuse}
use Rattle.std.proofs.lemmas.Result.{err_from_is_err_and}
use Rattle.stl_write.specs.Call.{write_left}
use Rattle.stl_write.proofs.Calls.{granted, all_written}
use Rattle.stl_write.proofs.write_stl.Goals as goal

pub write_all-requires : goal.write_all-requires
write_all-requires c =
    let g = granted c.args.vertices.now c.args.indices.now _ (sym c.write_verdict.ensures ∙ c.in_ok-write_verdict.was) in
    (g.whole, g.few)

pub invariant_of-write_all : goal.invariant_of-write_all
invariant_of-write_all c = record { below = (granted c.args.vertices.now c.args.indices.now _ (sym c.write_verdict.ensures ∙ c.in_ok-write_verdict.was)).below }

pub returns-in_err-write_verdict : goal.returns-in_err-write_verdict
unfolding write_left
returns-in_err-write_verdict c =
    let p = err_from_is_err_and c.from_residual.result c.from_residual.ensures.1 in
    rw (p.1, p.2) (refuse _ _ _ _ (sym c.in_err-write_verdict.was ∙ c.write_verdict.ensures))

pub returns : goal.returns
unfolding write_left
returns c =
    let z = sym c.write_verdict.ensures ∙ c.in_ok-write_verdict.was in
    let g = granted c.args.vertices.now c.args.indices.now _ z in
    accept _ _ _ z (all_written c.args.vertices.now c.args.indices.now c.args.out.now _ _ g c.write_all.ensures.out_after c.write_all.ensures.value)
