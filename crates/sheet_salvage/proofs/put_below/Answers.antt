use native.Mathlib.Omega.{arith}
use borrow.Author.Tests.{lt-ltb, le-ltb}
use Rattle.sheet_salvage.proofs.put_below.Goals as goal

pub returns-then-at-total : goal.returns-then-at-total
returns-then-at-total c = rw (lt-ltb c.args.at c.args.total (omega arith)) c.put_word.ensures

pub returns-else-at-total : goal.returns-else-at-total
returns-else-at-total c = rw (le-ltb c.args.at c.args.total (omega arith))
