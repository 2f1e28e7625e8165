use borrow.Author.Rules.{rules}
use Rattle.path_adaptive.proofs.Tallies.{walks_more, walks_none, more-spent, more-less, met_all}
use Rattle.path_adaptive.specs.Tally.{spent_all}
use Rattle.std.specs.Prelude.{Ok}
use Rattle.std.proofs.lemmas.Result.{err_from_is_err_and}
use native.Mathlib.Omega.{arith}
use mathlib.Core.Path.{sym, ap, ◌∙◌}
use Rattle.path_adaptive.proofs.measure.measure_strokes.Goals as goal

pub loop-j-preserved : goal.loop-j-preserved
loop-j-preserved c =
    let m = walks_more c.args.view.now c.args.points.now c.args.starts.now c.loop-j.j _ (search rules) c.end_of-e.ensures in
    (more-spent m (Ok c.loop-j.s) _ (sym c.in_ok-s.was ∙ c.measure_stroke.ensures) ∙ c.loop-j.invariant.0, omega (arith, more-less m (Ok c.loop-j.s) _ (sym c.in_ok-s.was ∙ c.measure_stroke.ensures), c.loop-j.invariant.1))

pub returns-in_err-s : goal.returns-in_err-s
returns-in_err-s c =
    let p = err_from_is_err_and c.from_residual.result c.from_residual.ensures.1 in
    let m = walks_more c.args.view.now c.args.points.now c.args.starts.now c.loop-j.j _ (search rules) c.end_of-e.ensures in
    rw (p.1, p.2) (sym (met_all _ _) ∙ more-spent m (Ok c.loop-j.s) _ (sym c.in_err-s.was ∙ c.measure_stroke.ensures) ∙ c.loop-j.invariant.0)

pub returns : goal.returns
unfolding spent_all
returns c =
    let z = walks_none c.args.view.now c.args.points.now c.args.starts.now c.loop-j.j (search rules) in
    sym (ap (spent_all (Ok c.loop-j.s)) z) ∙ c.loop-j.invariant.0
