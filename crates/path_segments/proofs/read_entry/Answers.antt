-- `read_entry` meets its contract.
use native.Mathlib.Omega.{arith}
use Rattle.path_segments.proofs.Segments.{wrote_none, wrote-joined, wrote-whole}
use Rattle.path_segments.proofs.read_entry.Goals as goal

pub returns-then-n-path_id : goal.returns-then-n-path_id
returns-then-n-path_id c = wrote_none c.args.points.now c.args.n c.args.x (omega (arith, c.if-n-path_id.true, c.path_id.ensures)) c.args.out.now c.args.at

pub returns-then-x-eq0 : goal.returns-then-x-eq0
returns-then-x-eq0 c = wrote-joined c.args.points.now c.args.n c.args.x c.opposite-f.result.0 c.opposite-f.ensures (omega (arith, c.if-n-path_id.false, c.path_id.ensures)) c.if-x-eq0.true c.args.out.now _ c.args.at c.point_at.result c.point_at.ensures c.put_point.ensures

pub returns : goal.returns
returns c = wrote-whole c.args.points.now c.args.n c.args.x c.opposite-f.result.0 c.opposite-f.ensures (omega (arith, c.if-n-path_id.false, c.path_id.ensures)) (omega arith) c.args.out.now _ _ c.args.at c.point_at-2.result c.point_at-3.result c.point_at-2.ensures c.put_point-2.ensures c.point_at-3.ensures c.put_point-3.ensures
