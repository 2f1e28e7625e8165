-- `word_inside` meets its contract.
use Rattle.byte_words.specs.Bytes.{word_from}
use Rattle.byte_words.proofs.word_inside.Goals as goal

pub returns : goal.returns
unfolding word_from
returns c = c.word_of.ensures
