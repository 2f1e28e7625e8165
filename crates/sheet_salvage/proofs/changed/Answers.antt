use borrow.Author.Tests.{eq-eqb, ne_eqb}
use Rattle.sheet_salvage.proofs.changed.Goals as goal

pub returns-then-stated-written : goal.returns-then-stated-written
returns-then-stated-written c = rw (eq-eqb c.args.stated c.args.written c.if-stated-written.true)

pub returns : goal.returns
returns c = rw (ne_eqb c.args.stated c.args.written c.if-stated-written.false)
