use native.Mathlib.Omega.{arith}
use Rattle.sheet.specs.Sheets.{size_of}
use borrow.Author.Tests.{le-leb, lt-leb}
use Rattle.refusal.specs.Refusals.{unless}
use Rattle.sheet_salvage.specs.Call.{kept_verdict}
use Rattle.refusal.specs.Limits.{most_strokes}
use Rattle.sheet_salvage.proofs.kept_verdict.Goals as goal

pub returns-then-strokes-gt-MOST_STROKES : goal.returns-then-strokes-gt-MOST_STROKES
unfolding kept_verdict unless
returns-then-strokes-gt-MOST_STROKES c = rw (lt-leb c.args.strokes most_strokes c.if-strokes-gt-MOST_STROKES.true)

pub returns-then-room-numbers_from : goal.returns-then-room-numbers_from
unfolding kept_verdict unless
returns-then-room-numbers_from c = rw (le-leb c.args.strokes most_strokes c.if-strokes-gt-MOST_STROKES.false, lt-leb (size_of c.args.strokes c.args.points) c.args.room (omega (arith, c.numbers_from.ensures, c.if-room-numbers_from.true)))

pub returns : goal.returns
unfolding kept_verdict unless
returns c = rw (le-leb c.args.strokes most_strokes c.if-strokes-gt-MOST_STROKES.false, le-leb (size_of c.args.strokes c.args.points) c.args.room (omega (arith, c.numbers_from.ensures, c.if-room-numbers_from.false)))
