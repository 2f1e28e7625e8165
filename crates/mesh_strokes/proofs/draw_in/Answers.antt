-- `draw_in` meets its contract.
use mathlib.Core.Path.{refl, ap, ◌∙◌, subst}
use mathlib.Core.List.{List}
use Prim.Native.Nat.{ℕ, ◌*◌}
use lib.ListN.{length, drop}
use lib.Ieee.{Float}
use Rattle.path_splice.specs.InnerPairs.{pairs_left}
use Rattle.mesh_edges.proofs.Said.{edges_length}
use Rattle.mesh_strokes.specs.InnerWalk.{KeptIn, flips_for}
use Rattle.mesh_strokes.proofs.Steps.{room_for_lem, listed, fitting, all_after, spliced, laid_as, drawing_of_lem}
use Rattle.mesh_strokes.proofs.draw_in.Goals as goal

pub keep_edges-m-requires : goal.keep_edges-m-requires
keep_edges-m-requires c = let fl = flips_for c.args.mode c.args.flips.now in record { room = room_for_lem c.args.mesh.indices.now _ _ _ _ c.requires c.list_edges.new.s (ap length c.list_edges.ensures ∙ edges_length c.args.scratch.now c.args.mesh.indices.now fl); listed = listed c.args.mesh.indices.now _ _ _ _ c.requires c.args.scratch.now c.list_edges.new.s fl refl c.list_edges.ensures }

pub returns : goal.returns
returns c =
    let t = c.list_edges.new.s in
    let m = c.keep_edges-m.result in
    let u = c.keep_edges-m.new.s in
    let eu = c.keep_edges-m.ensures.size ∙ ap length c.list_edges.ensures ∙ edges_length c.args.scratch.now c.args.mesh.indices.now (flips_for c.args.mode c.args.flips.now) in
    let seen = subst (λ (s : List Float). KeptIn c.args.mode s c.args.tolerance c.args.mesh.indices.now t u m) c.look.ensures c.keep_edges-m.ensures in
    laid_as _ _ c.args.out_points.now c.args.out_starts.now _ _ _ _
    (drawing_of_lem c.args.mode c.args.eye c.args.tolerance c.args.flips.now c.args.mesh.vertices.now c.args.mesh.indices.now c.args.seen.now c.args.scratch.now t u m _ _ _ _ c.requires refl refl c.list_edges.ensures seen)
    (spliced (drop (5 * length c.args.mesh.indices.now) u) _ c.args.out_points.now c.args.out_starts.now _ _ m _ _
    (fitting c.args.mesh.indices.now _ _ _ _ c.requires m u c.args.out_points.now c.args.out_starts.now eu c.keep_edges-m.ensures.few refl refl)
    (c.splice_pairs.ensures ∙ ap (λ (s : List ℕ). pairs_left s m c.args.out_points.now c.args.out_starts.now) (all_after u (5 * length c.args.mesh.indices.now))))
