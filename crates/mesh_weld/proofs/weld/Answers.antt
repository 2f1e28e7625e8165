-- `weld` meets its contract: a refusal leaves all as it was, and an accepted call clears scratch, welds, and clears it again.
use mathlib.Core.Path.{refl, ◌≡◌, sym, ap, ◌∙◌}
use Prim.Native.Nat.{ℕ}
use native.Mathlib.Omega.{arith}
use lib.ListN.{length, replicate}
use Rattle.std.proofs.lemmas.Result.{err_from_is_err_and}
use Rattle.refusal.proofs.Outcomes.{accept, refuse}
use Rattle.mesh_weld.specs.Call.{weld_left}
use Rattle.mesh_weld.proofs.Calls.{fitting, all_welded}
use Rattle.mesh_weld.proofs.weld.Goals as goal

pub weld_all-k-requires : goal.weld_all-k-requires
weld_all-k-requires c =
    let e : length c.clear.new.s ≡ length c.args.scratch.now = c.clear.auto.s in
    let z = sym c.weld_verdict.ensures ∙ c.in_ok-weld_verdict.was in
    let h = fitting c.args.coords.now (length c.args.scratch.now) (length c.args.vertices.now) (length c.args.indices.now) z in
    record { scratch_value = c.clear.ensures ∙ ap (λ (n : ℕ). replicate n 0) (sym e); n_value = (refl, omega arith, omega arith, omega arith, omega arith) }

pub returns-in_err-weld_verdict : goal.returns-in_err-weld_verdict
unfolding weld_left
returns-in_err-weld_verdict c =
    let p = err_from_is_err_and c.from_residual.result c.from_residual.ensures.1 in
    rw (p.1, p.2) (refuse _ _ _ _ (sym c.in_err-weld_verdict.was ∙ c.weld_verdict.ensures))

pub returns : goal.returns
unfolding weld_left
returns c =
    let e : length c.weld_all-k.new.scratch ≡ length c.args.scratch.now = c.weld_all-k.auto.scratch ∙ c.clear.auto.s in
    let z = sym c.weld_verdict.ensures ∙ c.in_ok-weld_verdict.was in
    accept _ _ _ z
    (all_welded c.args.coords.now c.args.scratch.now c.args.vertices.now c.args.indices.now c.clear-2.new.s c.weld_all-k.new.vertices c.weld_all-k.new.indices c.weld_all-k.result z c.weld_all-k.ensures
    (c.clear-2.ensures ∙ ap (λ (n : ℕ). replicate n 0) e))
