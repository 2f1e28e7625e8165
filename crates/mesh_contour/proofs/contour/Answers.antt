-- `contour` meets its contract: a refusal leaves all as it was; an accepted call joins the segments of all faces and clears its scratch.
use mathlib.Core.Path.{sym, ◌∙◌}
use native.Mathlib.Omega.{arith}
use Rattle.std.proofs.lemmas.Result.{err_from_is_err_and}
use Rattle.refusal.proofs.Outcomes.{refuse}
use Rattle.mesh_contour.specs.Call.{contour_left}
use Rattle.mesh_contour.proofs.Contours.{granted, below, contour_left_lem}
use Rattle.mesh_contour.proofs.contour.Goals as goal

pub returns-in_err-contour_verdict : goal.returns-in_err-contour_verdict
unfolding contour_left
returns-in_err-contour_verdict c =
    let p = err_from_is_err_and c.from_residual.result c.from_residual.ensures.1 in
    rw (p.1, p.2) (refuse _ _ _ _ (sym c.in_err-contour_verdict.was ∙ c.contour_verdict.ensures))

pub overflow_cast-n : goal.overflow_cast-n
overflow_cast-n c = record { fits = omega (arith, (granted c.args.vertices.now c.args.indices.now c.args.plane c.args.tolerance _ _ _ _ c.contour_verdict.result c.contour_verdict.ensures c.in_ok-contour_verdict.was).few) }

pub put_segments-k-requires : goal.put_segments-k-requires
put_segments-k-requires c =
    let y = c.in_ok-contour_verdict.was in
    record { n_le_most_faces = (granted c.args.vertices.now c.args.indices.now c.args.plane c.args.tolerance _ _ _ _ c.contour_verdict.result c.contour_verdict.ensures y).few; n_there = omega arith }

pub invariant_of-put_segments : goal.invariant_of-put_segments
invariant_of-put_segments c =
    record { below = below c.args.vertices.now c.args.indices.now c.args.plane c.args.tolerance _ _ _ _ c.contour_verdict.result c.contour_verdict.ensures c.in_ok-contour_verdict.was }

pub returns : goal.returns
returns c =
    contour_left_lem c.args.vertices.now c.args.indices.now c.args.plane c.args.tolerance c.args.scratch.now c.args.numbers.now c.args.out_points.now c.args.out_starts.now
    c.contour_verdict.result c.contour_verdict.ensures c.in_ok-contour_verdict.was
    c.join_segments-p.result c.put_segments-k.result _ _ _ _ _ _ c.put_segments-k.ensures.0 c.put_segments-k.ensures.1 c.join_segments-p.ensures c.join_segments-p.auto.s c.put_segments-k.auto.out c.clear.ensures c.clear_numbers.ensures
