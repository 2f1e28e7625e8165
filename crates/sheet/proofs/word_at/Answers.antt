-- `word_at` meets its contract.
use Rattle.sheet.specs.Sheets.{word_at}
use Rattle.sheet.proofs.Words.{word_out}
use Rattle.sheet.proofs.word_at.Goals as goal

pub returns-then-bytes-k : goal.returns-then-bytes-k
returns-then-bytes-k c = word_out c.args.bytes.now c.args.k c.if-bytes-k.true

pub returns : goal.returns
unfolding word_at
returns c = c.word_from.ensures
