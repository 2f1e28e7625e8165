-- The worked cases, by computation.
use mathlib.Core.Path.{refl}
use lib.Ieee.{of_bits, to_bits, fits, is_nan}
use Rattle.refusal.specs.Each.{Each}
use Rattle.single.specs.Singles.{pattern_of}
use Rattle.single.specs.Cases.{Holds, worked}

pub cases : Each Holds worked
unfolding worked pattern_of of_bits to_bits fits is_nan
cases =
    ((refl, refl), ((refl, refl), ((refl, refl), ((refl, refl), ((refl, refl), ((refl, refl), ((refl, refl), (refl, (refl, (refl, (refl, (refl, tt))))))))))))
