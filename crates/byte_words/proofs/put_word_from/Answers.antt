-- `put_word_from` meets its contract.
use Rattle.byte_words.proofs.Words.{set-none}
use Rattle.byte_words.proofs.put_word_from.Goals as goal

pub returns-then-out-i : goal.returns-then-out-i
returns-then-out-i c = set-none c.args.out.now c.args.i c.args.w c.if-out-i.true
