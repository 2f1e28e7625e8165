-- `root_bits_near_one` meets its contract: next to 1.0 the root is half as far from it.
use Rattle.vector.proofs.Roots.{near-one}
use Rattle.vector.proofs.number.root_bits_near_one.Goals as goal

pub returns : goal.returns
returns c = near-one c.args.b c.requires.0 c.requires.1
