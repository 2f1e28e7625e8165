use mathlib.Core.Path.{sym, ◌∙◌}
use native.Mathlib.Omega.{arith}
use Rattle.path.specs.Strokes.{point_at}
use Rattle.path_simplify.specs.InnerNotes.{thin_at}
use Rattle.path_simplify.proofs.Noted.{lay_turn, lay_end}
use Rattle.path_simplify.proofs.lay.Goals as goal

pub loop-i-preserved : goal.loop-i-preserved
loop-i-preserved c = (
  cc,
  lay_turn (point_at c.args.points.now) c.args.kept.now.places c.args.kept.now.count c.loop-i.i c.args.at c.loop-i.out c.loop-i-test.true (omega (arith, c.args.kept.now.within, c.args.kept.now.long)) _ _ c.point_at.ensures c.put_point.ensures
      ∙ c.loop-i.invariant.1,
)

pub returns : goal.returns
unfolding thin_at
returns c = sym (lay_end (point_at c.args.points.now) c.args.kept.now.places c.args.kept.now.count c.loop-i.i c.args.at c.loop-i.out c.loop-i-test.false) ∙ c.loop-i.invariant.1
