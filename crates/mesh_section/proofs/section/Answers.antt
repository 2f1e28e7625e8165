-- `section` meets its contract: a refusal leaves all as it was, and an accepted call writes the strokes of all faces.
use mathlib.Core.Path.{sym, ◌∙◌}
use native.Mathlib.Omega.{arith}
use Rattle.std.proofs.lemmas.Result.{err_from_is_err_and}
use Rattle.refusal.proofs.Outcomes.{accept, refuse}
use Rattle.path.proofs.Calls.{wrote_all}
use Rattle.mesh.specs.Meshes.{face_at}
use Rattle.mesh_section.specs.Section.{section_of}
use Rattle.mesh_section.specs.Call.{section_left}
use Rattle.mesh_section.proofs.Faces.{fitting, faces_fit, below}
use Rattle.mesh_section.proofs.section.Goals as goal

pub returns-in_err-section_verdict : goal.returns-in_err-section_verdict
unfolding section_left
returns-in_err-section_verdict c =
    let p = err_from_is_err_and c.from_residual.result c.from_residual.ensures.1 in
    rw (p.1, p.2) (refuse _ _ _ _ (sym c.in_err-section_verdict.was ∙ c.section_verdict.ensures))

pub overflow_cast-n : goal.overflow_cast-n
overflow_cast-n c =
    let h = fitting c.args.vertices.now c.args.indices.now c.args.plane c.args.tolerance _ _ (sym c.section_verdict.ensures ∙ c.in_ok-section_verdict.was) in
    record { fits = omega arith }

pub write_faces-requires : goal.write_faces-requires
write_faces-requires c =
    let z = sym c.section_verdict.ensures ∙ c.in_ok-section_verdict.was in
    let h = fitting c.args.vertices.now c.args.indices.now c.args.plane c.args.tolerance _ _ z in
    record { n_le_most_faces = omega (arith, h.0); n_there = omega arith }

pub invariant_of-write_faces : goal.invariant_of-write_faces
invariant_of-write_faces c =
    record { below = below c.args.vertices.now c.args.indices.now c.args.plane c.args.tolerance _ _ (sym c.section_verdict.ensures ∙ c.in_ok-section_verdict.was) }

pub returns : goal.returns
unfolding section_left section_of
returns c =
    let z = sym c.section_verdict.ensures ∙ c.in_ok-section_verdict.was in
    let h = fitting c.args.vertices.now c.args.indices.now c.args.plane c.args.tolerance _ _ z in
    let f = faces_fit (face_at c.args.vertices.now c.args.indices.now) c.args.plane c.args.tolerance _ _ _ h.1 h.2 in
    accept _ _ _ z (wrote_all _ _ c.args.out_points.now c.args.out_starts.now _ c.write_faces.ensures f.0 f.1)
