-- `no_number` meets its contract.
use Rattle.std.proofs.Common.{sym}
use lib.Ieee.Bits.{nan_bits_above}
use lib.Ieee.{binary64}
use Rattle.replay_rows.proofs.no_number.Goals as goal

pub returns : goal.returns
returns c = sym (nan_bits_above binary64 _)
