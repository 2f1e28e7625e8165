-- `places_good` meets its contract.
use native.Mathlib.Omega.{arith}
use Prim.Native.Nat.{◌*◌}
use Rattle.sheet.specs.Sheets.{places_good}
use Rattle.sheet_read.proofs.Loops.{is_not, is_so}
use Rattle.sheet_read.proofs.places_good.Goals as goal

pub returns-then-word_at : goal.returns-then-word_at
unfolding places_good
returns-then-word_at c = rw (is_not c.word_at.ensures c.if-word_at.true)

pub returns-then-word_at-k : goal.returns-then-word_at-k
unfolding places_good
returns-then-word_at-k c = rw (← c.numbers_from-k.ensures, is_so c.word_at.ensures c.if-word_at.false, is_not {n = 4 * c.numbers_from-k.result} c.word_at-2.ensures (λ h. omega arith))

pub returns : goal.returns
unfolding places_good
returns c = rw (← c.numbers_from-k.ensures, is_so c.word_at.ensures c.if-word_at.false, is_so {n = 4 * c.numbers_from-k.result} c.word_at-2.ensures (omega arith))
