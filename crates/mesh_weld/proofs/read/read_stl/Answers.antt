-- `read_stl` meets its contract: a refusal leaves all as it was, and an accepted call clears scratch, welds the file's corners, and clears
-- it again.
use mathlib.Core.Path.{◌≡◌, sym, ap, ◌∙◌}
use mathlib.Core.List.{[], ◌∷◌}
use Prim.Native.Nat.{ℕ, ◌*◌, ◌/◌}
use native.Mathlib.Omega.{arith}
use lib.ListN.{length, replicate}
use Rattle.refusal.specs.Said.{accepted}
use Rattle.std.proofs.lemmas.Result.{err_from_is_err_and}
use Rattle.refusal.proofs.Outcomes.{accept, refuse}
use Rattle.stl.specs.Files.{coordinates_in}
use Rattle.stl.proofs.Corners.{length-coordinates}
use Rattle.mesh_weld.specs.Call.{left}
use Rattle.mesh_weld.specs.Read.{read_left}
use Rattle.mesh_weld.proofs.Calls.{fitting, all_welded}
use Rattle.mesh_weld.proofs.Files.{read_fitting}
use Rattle.mesh_weld.proofs.read.read_stl.Goals as goal

pub weld_all-k-requires : goal.weld_all-k-requires
weld_all-k-requires c =
    let bs = c.args.bytes.now in
    let e : length c.clear.new.s ≡ length c.args.scratch.now = c.clear.auto.s in
    let z = sym c.read_verdict.ensures ∙ c.in_ok-read_verdict.was in
    let h = fitting (coordinates_in bs) (length c.args.scratch.now) (length c.args.vertices.now) (length c.args.indices.now) (read_fitting bs _ _ _ z) in
    let l = length-coordinates bs in
    record { scratch_value = c.clear.ensures ∙ ap (λ (n : ℕ). replicate n 0) (sym e); n_value = (omega (arith, c.faces_in.ensures), omega (arith, c.faces_in.ensures, l, h), omega (arith, c.faces_in.ensures, l, h, e), omega (arith, c.faces_in.ensures, l, h), omega (arith, c.faces_in.ensures, l, h)) }

pub returns-in_err-read_verdict : goal.returns-in_err-read_verdict
unfolding read_left
returns-in_err-read_verdict c =
    let p = err_from_is_err_and c.from_residual.result c.from_residual.ensures.1 in
    rw (p.1, p.2) (refuse _ _ _ _ (sym c.in_err-read_verdict.was ∙ c.read_verdict.ensures))

pub returns : goal.returns
unfolding read_left
returns c =
    let bs = c.args.bytes.now in
    let e : length c.weld_all-k.new.scratch ≡ length c.args.scratch.now = c.weld_all-k.auto.scratch ∙ c.clear.auto.s in
    let z = sym c.read_verdict.ensures ∙ c.in_ok-read_verdict.was in
    let n : 3 * c.faces_in.result ≡ length (coordinates_in bs) / 3 = omega (arith, c.faces_in.ensures, length-coordinates bs) in
    accept _ _ _ z
    (ap (λ (m : ℕ). left (accepted (c.weld_all-k.result ∷ m ∷ [])) c.clear-2.new.s c.weld_all-k.new.vertices c.weld_all-k.new.indices) n
    ∙ all_welded (coordinates_in bs) c.args.scratch.now c.args.vertices.now c.args.indices.now c.clear-2.new.s c.weld_all-k.new.vertices c.weld_all-k.new.indices c.weld_all-k.result (read_fitting bs _ _ _ z) c.weld_all-k.ensures
    (c.clear-2.ensures ∙ ap (λ (n : ℕ). replicate n 0) e))
