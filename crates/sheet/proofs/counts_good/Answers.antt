-- `counts_good` meets its contract.
use borrow.Author.Tests.{le-leb, lt-leb}
use Rattle.sheet.specs.Sheets.{counts_good}
use Rattle.sheet.proofs.counts_good.Goals as goal

pub returns-then-vertices-gt-MOST_VERTICES : goal.returns-then-vertices-gt-MOST_VERTICES
unfolding counts_good
returns-then-vertices-gt-MOST_VERTICES c = rw (lt-leb _ _ c.if-vertices-gt-MOST_VERTICES.true)

pub returns-then-strokes-gt-MOST_STROKES : goal.returns-then-strokes-gt-MOST_STROKES
unfolding counts_good
returns-then-strokes-gt-MOST_STROKES c = rw (le-leb _ _ c.if-vertices-gt-MOST_VERTICES.false, lt-leb _ _ c.if-strokes-gt-MOST_STROKES.true)

pub returns : goal.returns
unfolding counts_good
returns c = rw (le-leb _ _ c.if-vertices-gt-MOST_VERTICES.false, le-leb _ _ c.if-strokes-gt-MOST_STROKES.false)
