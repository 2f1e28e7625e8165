-- `mode_good` meets its contract.
use native.Mathlib.Omega.{arith}
use borrow.Author.Tests.{le-leb, lt-leb}
use Rattle.sheet.specs.Sheets.{mode_good}
use Rattle.sheet.proofs.mode_good.Goals as goal

pub returns-then-mode-gt3 : goal.returns-then-mode-gt3
unfolding mode_good
returns-then-mode-gt3 c = rw (lt-leb _ _ c.if-mode-gt3.true)

pub returns : goal.returns
unfolding mode_good
returns c = rw (le-leb c.args.mode 3 (omega arith))
