-- Single faces, by computation.
use mathlib.Core.Path.{refl}
use lib.Ieee.{of_bits, of_fields, add, sub, mul, div, lt, eq, neg}
use Rattle.refusal.specs.Each.{Each}
use Rattle.mesh_contour_rule.specs.Contour.{side_of, cross_from, crossing, at_corner, on_side, met, gives, segment_by}
use Rattle.mesh_contour_rule.specs.Cases.{Holds, worked}

pub cases : Each Holds worked
unfolding worked segment_by gives met at_corner on_side crossing cross_from side_of of_bits of_fields add sub mul div lt eq neg
cases = (refl, (refl, (refl, (refl, (refl, tt)))))
