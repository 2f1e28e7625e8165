-- `length` meets its contract: the root of the sum of squares, and NaN where that is refused.
use Rattle.std.proofs.Common.{ap, ◌∙◌}
use lib.Ieee.{of_bits, div}
use Rattle.vector.specs.Root.{root_of}
use Rattle.vector.specs.Lengths.{or_nan}
use Rattle.vector.proofs.RootLaws.{unwrapped}
use Rattle.vector.proofs.Vector.length.Goals as goal

pub returns : goal.returns
unfolding of_bits div
returns c = c.unwrap_or.ensures ∙ unwrapped c.sqrt.result ∙ ap or_nan (c.sqrt.ensures ∙ ap root_of c.length_squared.ensures)
