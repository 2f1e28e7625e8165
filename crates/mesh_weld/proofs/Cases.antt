-- The paper's cases of welding, by computation.
use mathlib.Core.Path.{refl}
use lib.Ieee.{of_bits, of_fields, span as fspan, climb, size, odd, units, round, neg, sum, add, sub, mul, div, lt}
use Rattle.refusal.specs.Each.{Each}
use Rattle.vector.specs.Floor.{floor_of}
use Rattle.path.specs.Strokes.{point_at}
use Rattle.mesh_weld.specs.Weld.{cell, same, in_cell, near, or_else, oldest, find_in, three, find, join_as, join, weld_to, weld_of}
use Rattle.mesh_weld.specs.Cases.{Holds, paper}

pub cases : Each Holds paper
unfolding paper point_at cell same in_cell near or_else oldest find_in three find join_as join weld_to weld_of floor_of of_bits of_fields fspan climb size odd units round neg sum add sub mul div lt
cases = (refl, (refl, (refl, tt)))
