-- `word_from` meets its contract.
use Rattle.byte_words.proofs.Words.{word_out}
use Rattle.byte_words.proofs.word_from.Goals as goal

pub returns-then-bytes-i : goal.returns-then-bytes-i
returns-then-bytes-i c = word_out c.args.bytes.now c.args.i c.if-bytes-i.true
