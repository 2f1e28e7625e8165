-- The paper's proved cases of chop, by computation.
use mathlib.Core.Path.{refl}
use lib.Ieee.{of_bits, of_fields, add, sub, mul, div, lt, le}
use Rattle.refusal.specs.Each.{Each}
use Rattle.refusal.specs.Refusals.{unless}
use Rattle.refusal.specs.Outcome.{outcome}
use Rattle.vector.specs.Abs.{abs_of}
use Rattle.vector.specs.Root.{root_of}
use Rattle.path.specs.Strokes.{good_from, good_starts, gather, strokes_of, point_at}
use Rattle.path.specs.Laid.{non_empty, joined}
use Rattle.path.specs.Tests.{shaped_of, counted_of, coordinates_good, step_good}
use Rattle.path.specs.Call.{laid}
use Rattle.path_chop.specs.Chop.{steps_of, cut, span, spans, chopped, chopped_by}
use Rattle.path_chop.specs.Call.{room_for, verdict_of, chop_left}
use Rattle.path_chop.specs.Cases.{line, Holds, paper}

pub cases : Each Holds paper
unfolding paper line chop_left outcome laid verdict_of unless shaped_of good_starts good_from counted_of coordinates_good step_good abs_of room_for chopped_by strokes_of gather point_at chopped spans span cut steps_of joined non_empty root_of of_bits of_fields add sub mul div lt le
cases = (refl, (refl, tt))
