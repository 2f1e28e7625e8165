-- `there` meets its contract.
use Rattle.path_splice.proofs.Tables.{there_none, there_some}
use Rattle.path_splice.proofs.Strokes.there.Goals as goal

pub returns-then-s : goal.returns-then-s
returns-then-s c = there_none c.args.self.points.now c.args.self.starts.now c.args.i c.span_of-s.result.from c.span_of-s.result.to c.span_of-s.ensures c.if-s.true

pub returns : goal.returns
returns c = there_some c.args.self.points.now c.args.self.starts.now c.args.i c.span_of-s.result.from c.span_of-s.result.to c.span_of-s.ensures c.if-s.false
