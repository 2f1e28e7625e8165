use borrow.Author.Tests.{eq-eqb, ne_eqb}
use Rattle.sheet_salvage.proofs.stroked.Goals as goal

pub returns-then-strokes-eq0 : goal.returns-then-strokes-eq0
returns-then-strokes-eq0 c = rw (eq-eqb c.args.strokes 0 c.if-strokes-eq0.true)

pub returns : goal.returns
returns c = rw (ne_eqb c.args.strokes 0 c.if-strokes-eq0.false)
