-- `fits` meets its contract.
use Prim.Native.Nat.{◌*◌}
use borrow.Author.Tests.{le-leb, lt-leb}
use Rattle.path_splice.specs.InnerPairs.{strokes_fit}
use Rattle.path_splice.proofs.fits.Goals as goal

pub returns-then-n-gt-MOST_STROKES : goal.returns-then-n-gt-MOST_STROKES
unfolding strokes_fit
returns-then-n-gt-MOST_STROKES g c = rw (lt-leb _ _ c.if-n-gt-MOST_STROKES.true)

pub returns-then-words-n : goal.returns-then-words-n
unfolding strokes_fit
returns-then-words-n g c = rw (le-leb _ _ c.if-n-gt-MOST_STROKES.false, lt-leb (g.row.W * c.args.n) c.args.words c.if-words-n.true)

pub returns-then-room-n : goal.returns-then-room-n
unfolding strokes_fit
returns-then-room-n g c = rw (le-leb _ _ c.if-n-gt-MOST_STROKES.false, le-leb _ _ c.if-words-n.false, lt-leb _ _ c.if-room-n.true)

pub returns : goal.returns
unfolding strokes_fit
returns g c = rw (le-leb _ _ c.if-n-gt-MOST_STROKES.false, le-leb _ _ c.if-words-n.false, le-leb _ _ c.if-room-n.false)
