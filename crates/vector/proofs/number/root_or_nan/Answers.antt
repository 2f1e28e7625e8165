-- `root_or_nan` meets its contract.
use Rattle.std.proofs.Common.{ap, ◌∙◌}
use lib.Ieee.{of_bits, div}
use Rattle.vector.specs.Lengths.{or_nan}
use Rattle.vector.proofs.RootLaws.{unwrapped}
use Rattle.vector.proofs.number.root_or_nan.Goals as goal

pub returns : goal.returns
unfolding of_bits div
returns c = c.unwrap_or.ensures ∙ unwrapped c.sqrt.result ∙ ap or_nan c.sqrt.ensures
