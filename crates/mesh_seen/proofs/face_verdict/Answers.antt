-- `face_verdict` meets its contract, by what `normal` answers.
use mathlib.Core.Path.{◌≡◌, sym, ap, ◌∙◌}
use Rattle.std.specs.Prelude.{Err}
use Rattle.mesh_seen.specs.declared.Flat.TheVariants.{Alike, NoLength}
use Rattle.mesh_seen.proofs.Normals.{verdict_by, verdict_by_lem}
use Rattle.mesh_seen.proofs.face_verdict.Goals as goal

pub returns-in-Ok : goal.returns-in-Ok
returns-in-Ok c = ap (λ x. verdict_by x c.args.f) (sym c.in-Ok.is) ∙ verdict_by_lem c.args.t c.args.f c.normal.result c.normal.ensures

pub returns-in-Err-Alike : goal.returns-in-Err-Alike
returns-in-Err-Alike c =
    let e : c.normal.result ≡ Err Alike = cc in
    ap (λ x. verdict_by x c.args.f) (sym e) ∙ verdict_by_lem c.args.t c.args.f c.normal.result c.normal.ensures

pub returns-in-Err-NoLength : goal.returns-in-Err-NoLength
returns-in-Err-NoLength c =
    let e : c.normal.result ≡ Err NoLength = cc in
    ap (λ x. verdict_by x c.args.f) (sym e) ∙ verdict_by_lem c.args.t c.args.f c.normal.result c.normal.ensures
