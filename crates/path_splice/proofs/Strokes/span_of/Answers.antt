-- `span_of` meets its contract.
use Rattle.path_splice.proofs.Tables.{spans, spans-none}
use Rattle.path_splice.proofs.Strokes.span_of.Goals as goal

pub returns-then-self-i : goal.returns-then-self-i
returns-then-self-i c = spans-none c.args.self.points.now c.args.self.starts.now c.args.i c.if-self-i.true

pub returns : goal.returns
returns c = spans c.args.self.points.now c.args.self.starts.now c.args.i c.args.self.good c.if-self-i.false c.end_of.result c.end_of.ensures
