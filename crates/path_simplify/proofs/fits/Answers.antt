-- `fits` meets its contract.
use Rattle.path_simplify.specs.Call.{room_for}
use borrow.Author.Tests.{le-leb, lt-leb}
use Rattle.path_simplify.proofs.fits.Goals as goal

pub returns-then-room-numbers : goal.returns-then-room-numbers
unfolding room_for
returns-then-room-numbers c = simp (lt-leb _ _ c.if-room-numbers.true)

pub returns : goal.returns
unfolding room_for
returns c = simp (le-leb _ _ c.if-room-numbers.false)
