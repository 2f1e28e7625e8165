-- `write_chopped` meets its contract.
use Rattle.path_chop.proofs.Chops.{chopped-length, chopped-ink}
use Rattle.path.specs.Strokes.{point_at}
use native.Mathlib.Omega.{arith}
use Rattle.path_chop.proofs.write_chopped.Goals as goal

pub write_spans-requires : goal.write_spans-requires
write_spans-requires c = omega (arith, chopped-length c.args.step (point_at c.args.points.now) c.args.a c.args.e c.requires.0 _ c.point_at-p.ensures)

pub returns : goal.returns
returns c = chopped-ink c.args.step (point_at c.args.points.now) c.args.a c.args.e c.requires.0 _ c.point_at-p.ensures c.args.out.now _ c.args.at _ c.put_point.ensures c.write_spans.ensures
