-- The paper's cases of floor and root, by computation.
use Rattle.std.proofs.Common.{refl}
use lib.Ieee.{of_bits}
use Rattle.refusal.specs.Each.{Each}
use Rattle.vector.specs.Floor.{floor_of}
use Rattle.vector.specs.Root.{root_of}
use Rattle.vector.specs.Cases.{Holds, paper}

pub cases : Each Holds paper
unfolding paper floor_of root_of of_bits
cases = (refl, (refl, (refl, (refl, (refl, (refl, tt))))))
