-- `same` meets its contract.
use Rattle.replay_rows.specs.Words.{same_of}
use Rattle.replay_rows.proofs.Laws.{itself}
use Rattle.replay_rows.proofs.same.Goals as goal

pub float_to_bits-result : goal.float_to_bits-result
float_to_bits-result c = itself c.args.x c.if-x.true

pub returns-then-x : goal.returns-then-x
unfolding same_of
returns-then-x c = rw c.if-x.true

pub returns : goal.returns
unfolding same_of
returns c = rw c.if-x.false c.no_number.ensures
