use Rattle.std.specs.Prelude.{Ok}
-- `measure_stroke` meets its contract.
use Rattle.path_adaptive.specs.Tally.{Tally}
use Rattle.path.specs.Strokes.{point_at, gather}
use Rattle.path_adaptive.proofs.Walks.{stroke_none, stroke_some}
use Rattle.path_adaptive.proofs.Tallies.{stroke_met, stroke_empty, stroke_goes, first-less}
use Rattle.path_adaptive.proofs.Meets.{points_left_lem}
use Rattle.path_adaptive.specs.Tally.{spent}
use Rattle.path_adaptive.specs.InnerMeasure.{pointed}
use Rattle.path_adaptive.specs.Walk.{shown_of, walk_from}
use Rattle.std.proofs.lemmas.Result.{err_from_is_err_and}
use Prim.Native.Nat.{◌+◌, ◌-◌}
use native.Mathlib.Omega.{arith}
use mathlib.Core.Path.{refl, sym, ap, ◌∙◌}
use Rattle.path_adaptive.proofs.measure.measure_stroke.Goals as goal

pub returns-then-e-a : goal.returns-then-e-a
returns-then-e-a c = stroke_empty (Ok c.args.b) _ (stroke_none c.args.view.now (point_at c.args.points.now) c.args.a c.args.e c.if-e-a.true)

pub returns-in_err-begun : goal.returns-in_err-begun
unfolding pointed
returns-in_err-begun c =
    let at = point_at c.args.points.now in
    let w = stroke_some c.args.view.now at c.args.a c.args.e _ _ (omega (arith, c.if-e-a.false)) refl refl in
    let p = err_from_is_err_and c.from_residual.result c.from_residual.ensures.1 in
    rw (p.1, p.2) (stroke_met (Ok c.args.b) _ _ _ _ w (ap pointed (sym c.in_err-begun.was ∙ c.begin.ensures)))

pub returns-in_err-s : goal.returns-in_err-s
returns-in_err-s c =
    let at = point_at c.args.points.now in
    let w = stroke_some c.args.view.now at c.args.a c.args.e _ _ (omega (arith, c.if-e-a.false)) refl refl in
    let p = err_from_is_err_and c.from_residual-in_err-s.result c.from_residual-in_err-s.ensures.1 in
    rw (p.1, p.2) (stroke_met (Ok c.args.b) _ _ _ _ w (sym c.in_err-s.was ∙ c.spend.ensures ∙ ap pointed (sym c.in_ok-begun.was ∙ c.begin.ensures)))

pub returns : goal.returns
returns c =
    let p = c.show-first.result in
    let w = stroke_some c.args.view.now (point_at c.args.points.now) c.args.a c.args.e _ p (omega (arith, c.if-e-a.false)) refl (c.show-first.ensures ∙ ap (shown_of c.args.view.now) c.point_at.ensures) in
    let r = walk_from c.args.view.now p (gather (point_at c.args.points.now) (c.args.a + 1) (c.args.e - (c.args.a + 1))) in
    let b = c.in_ok-s.s in
    let s = sym c.in_ok-s.was ∙ c.spend.ensures ∙ ap pointed (sym c.in_ok-begun.was ∙ c.begin.ensures) in
    let few = first-less (Ok c.args.b) (Ok b) c.point_at.result s refl in
    c.tally_of.ensures ∙ c.measure_spans.ensures _ ∙ ap (λ (x : Tally). spent x r) (points_left_lem b.points b.starts (omega (arith, c.requires))) ∙ stroke_goes (Ok c.args.b) (Ok b) _ r _ w s
