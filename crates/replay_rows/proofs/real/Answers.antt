-- `real` meets its contract.
use Rattle.std.proofs.Common.{sym, ◌∙◌}
use lib.Ieee.{of_bits, div}
use Rattle.replay_rows.proofs.Laws.{nan_read}
use Rattle.replay_rows.proofs.real.Goals as goal

pub returns-then-no_number : goal.returns-then-no_number
unfolding of_bits div
returns-then-no_number c = nan_read _ (sym c.no_number.ensures ∙ c.if-no_number.true)

pub float_from_bits-result : goal.float_from_bits-result
float_from_bits-result c = rw (sym c.no_number.ensures ∙ c.if-no_number.false) tt
