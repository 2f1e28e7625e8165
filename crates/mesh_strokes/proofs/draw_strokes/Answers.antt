-- `draw_strokes` meets its contract.
use mathlib.Core.Path.{sym, ap, ◌∙◌}
use Prim.Native.Nat.{ℕ}
use lib.ListN.{replicate}
use Rattle.vector.specs.Lengths.{zero64}
use Rattle.path.proofs.Tests.{both}
use Rattle.mesh_strokes.proofs.Steps.{granted, strokes_yes, strokes_no}
use Rattle.mesh_strokes.proofs.draw_strokes.Goals as goal

pub returns-then-not-ready : goal.returns-then-not-ready
returns-then-not-ready c = strokes_no c.args.vertices.now c.args.indices.now c.args.flips.now c.args.mode c.args.eye c.args.tolerance c.args.scratch.now c.args.seen.now c.args.out_points.now c.args.out_starts.now (sym c.ready.ensures ∙ c.if-not-ready.true)

pub draw_in-p-requires : goal.draw_in-p-requires
draw_in-p-requires c =
    granted c.args.indices.now _ _ _ _ (both _ _ (sym c.ready.ensures ∙ c.if-not-ready.false)).0

pub invariant_of-mesh : goal.invariant_of-mesh
invariant_of-mesh c = record { below = (both _ _ (sym c.ready.ensures ∙ c.if-not-ready.false)).1 }

pub returns : goal.returns
returns c =
    strokes_yes c.args.vertices.now c.args.indices.now c.args.flips.now c.args.mode c.args.eye c.args.tolerance c.args.scratch.now c.args.seen.now c.args.out_points.now c.args.out_starts.now _ _ _ _ _ _
    (sym c.ready.ensures ∙ c.if-not-ready.false)
    (c.clear.ensures ∙ ap (λ (n : ℕ). replicate n 0) c.draw_in-p.auto.scratch) (c.clear_numbers.ensures ∙ ap (λ (n : ℕ). replicate n zero64) c.draw_in-p.auto.seen)
    c.draw_in-p.ensures
