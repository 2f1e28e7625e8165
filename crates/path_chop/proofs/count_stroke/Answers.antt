-- `count_stroke` meets its contract.
use Rattle.path_chop.proofs.Counts.{kept-no, kept-yes}
use Rattle.path_chop.proofs.Chops.{stroke_short, chopped-length}
use Rattle.path.specs.Strokes.{point_at}
use Rattle.path_chop.specs.InnerCounts.{capped}
use Prim.Native.Nat.{◌-◌}
use native.Mathlib.Omega.{arith}
use mathlib.Core.Path.{sym, ap, ◌∙◌}
use Rattle.path_chop.proofs.count_stroke.Goals as goal

pub returns-then-not-kept : goal.returns-then-not-kept
returns-then-not-kept c =
    let z = stroke_short c.args.step (point_at c.args.points.now) c.args.a c.args.e (kept-no (c.args.e - c.args.a) (sym c.kept.ensures ∙ c.if-not-kept.true)) in
    c.cap.ensures ∙ ap capped (omega arith)

pub returns : goal.returns
returns c =
    let k = chopped-length c.args.step (point_at c.args.points.now) c.args.a c.args.e (omega (arith, kept-yes (c.args.e - c.args.a) (sym c.kept.ensures ∙ c.if-not-kept.false))) _ c.point_at.ensures in
    c.count_spans.ensures ∙ ap capped (omega arith)
