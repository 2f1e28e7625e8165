use Rattle.sheet_salvage.proofs.Points.{bit_few, and_bits}
use mathlib.Core.Bool.{◌&&◌}
use lib.Dec.{ltb}
use Rattle.sheet_salvage.proofs.good_one.Goals as goal

pub returns : goal.returns
returns c = bit_few (ltb c.args.number c.args.n && ltb c.args.i c.args.e) _ (rw (c.below.ensures.0, c.below-2.ensures.0) (and_bits (ltb c.args.number c.args.n) (ltb c.args.i c.args.e)))
