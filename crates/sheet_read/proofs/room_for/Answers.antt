-- `room_for` meets its contract.
use borrow.Author.Tests.{le-leb, lt-leb}
use Rattle.sheet_read.specs.Call.{room_for}
use Rattle.sheet_read.proofs.room_for.Goals as goal

pub returns-then-room-word_at : goal.returns-then-room-word_at
unfolding room_for
returns-then-room-word_at c = rw (← c.word_at.ensures, lt-leb _ _ c.if-room-word_at.true)

pub returns : goal.returns
unfolding room_for
returns c = rw (← c.word_at.ensures, le-leb _ _ c.if-room-word_at.false, ← c.word_at-2.ensures)
