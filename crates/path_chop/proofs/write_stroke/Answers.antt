-- `write_stroke` meets its contract.
use Rattle.path_chop.proofs.Counts.{kept-no, kept-yes}
use Rattle.path_chop.proofs.Chops.{stroke_short, stroke_some}
use Rattle.path.proofs.Pushes.{push-none, push-course}
use Rattle.path.specs.Strokes.{point_at}
use Rattle.path.specs.InnerPushes.{put_points, out}
use Prim.Native.Nat.{◌-◌}
use native.Mathlib.Omega.{arith}
use mathlib.Core.Path.{sym, ◌∙◌}
use Rattle.path_chop.proofs.write_stroke.Goals as goal

pub returns-then-not-kept : goal.returns-then-not-kept
returns-then-not-kept c = sym (push-none put_points _ _ (stroke_short c.args.step (point_at c.args.points.now) c.args.a c.args.e (kept-no (c.args.e - c.args.a) (sym c.kept.ensures ∙ c.if-not-kept.true))))

pub returns : goal.returns
returns c =
    let h = kept-yes (c.args.e - c.args.a) (sym c.kept.ensures ∙ c.if-not-kept.false) in
    rw c.put.ensures
    (push-course put_points (out c.args.out_points.now c.args.out_starts.now c.args.p) _ (stroke_some c.args.step (point_at c.args.points.now) c.args.a c.args.e (omega arith)) _ _ c.write_chopped-o.ensures)
