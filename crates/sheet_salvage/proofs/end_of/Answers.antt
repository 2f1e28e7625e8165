use borrow.Author.Tests.{lt-ltb, le-ltb}
use Rattle.sheet_salvage.proofs.end_of.Goals as goal

pub returns-then-i-strokes : goal.returns-then-i-strokes
returns-then-i-strokes c = rw (lt-ltb c.args.i c.args.strokes c.if-i-strokes.true) c.start_after.ensures

pub returns : goal.returns
returns c = rw (le-ltb c.args.i c.args.strokes c.if-i-strokes.false)
