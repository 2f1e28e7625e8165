-- `end_value` meets its contract.
use mathlib.Core.Path.{sym}
use Rattle.path_splice.proofs.Tables.{value_none, value-first, value-last, last_side, first-side}
use Rattle.path_splice.proofs.Strokes.end_value.Goals as goal

pub returns-then-a-b : goal.returns-then-a-b
returns-then-a-b c = value_none c.args.self.points.now c.args.self.starts.now c.path_id.result c.span_of-s.result.from c.span_of-s.result.to c.span_of-s.ensures c.args.e.0 (sym c.path_id.ensures) c.if-a-b.true

pub returns-then-is_last : goal.returns-then-is_last
returns-then-is_last c = value-last c.args.self.points.now c.args.self.starts.now c.path_id.result c.span_of-s.result.from c.span_of-s.result.to c.span_of-s.ensures c.args.e.0 (sym c.path_id.ensures) c.if-a-b.false (last_side c.args.e.0 _ c.is_last.ensures c.if-is_last.true)

pub returns : goal.returns
returns c = value-first c.args.self.points.now c.args.self.starts.now c.path_id.result c.span_of-s.result.from c.span_of-s.result.to c.span_of-s.ensures c.args.e.0 (sym c.path_id.ensures) c.if-a-b.false (first-side c.args.e.0 _ c.is_last.ensures c.if-is_last.false)
