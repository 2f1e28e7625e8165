-- The paper's proved cases of simplify, by computation.
use mathlib.Core.Path.{refl}
use lib.Ieee.{of_bits, of_fields, add, sub, mul, div, lt, le, eq}
use Rattle.refusal.specs.Each.{Each}
use Rattle.refusal.specs.Refusals.{unless}
use Rattle.refusal.specs.Outcome.{outcome}
use Rattle.vector.specs.Abs.{abs_of}
use Rattle.vector.specs.Root.{root_of}
use Rattle.vector.specs.Lengths.{segment_distance_of}
use Rattle.path.specs.Strokes.{good_from, good_starts, point_at}
use Rattle.path.specs.Laid.{non_empty, joined}
use Rattle.path.specs.Tests.{shaped_of, counted_of, coordinates_good}
use Rattle.path.specs.Call.{laid}
use Rattle.path_simplify.specs.Simplify.{farther_of, far_from, farthest, splits_at, first, parts, thin, thinned, thins_of, distances}
use Rattle.path_simplify.specs.Call.{short_of, room_for, verdict_of, simplify_left}
use Rattle.path_simplify.specs.Cases.{roof, Holds, paper}

pub cases : Each Holds paper
unfolding paper roof simplify_left outcome laid verdict_of unless shaped_of good_starts good_from counted_of coordinates_good short_of room_for abs_of point_at joined non_empty farther_of far_from farthest splits_at first parts thin thinned thins_of distances segment_distance_of root_of of_bits of_fields add sub mul div lt le eq
cases = (refl, (refl, tt))
