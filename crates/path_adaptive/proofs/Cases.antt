-- The paper's cases of chop_adaptive, by computation.
use mathlib.Core.Path.{refl}
use lib.Ieee.{of_bits, of_fields, add, sub, mul, div, lt, le}
use Rattle.refusal.specs.Each.{Each}
use Rattle.refusal.specs.Refusals.{unless}
use Rattle.refusal.specs.Outcome.{outcome}
use Rattle.vector.specs.Abs.{abs_of}
use Rattle.path.specs.Strokes.{good_from, good_starts, gather, strokes_of, point_at}
use Rattle.path.specs.Laid.{non_empty, joined}
use Rattle.path.specs.Tests.{shaped_of, counted_of, coordinates_good, entries_good, step_good, size_good, tolerance_good}
use Rattle.path.specs.Call.{laid}
use Rattle.path_adaptive.specs.Walk.{outside_of, span_ends, followed_by, walk, walk_from, stroke_walked, walks_of, halvings_of}
use Rattle.path_adaptive.specs.Tally.{spent, begun, spent_stroke, spent_all}
use Rattle.path_adaptive.specs.Call.{numbers_good, point_room, verdict_of, adaptive_left}
use Rattle.path_adaptive.specs.Cases.{Holds, paper}

pub cases : Each Holds paper
unfolding paper adaptive_left outcome laid verdict_of unless shaped_of good_starts good_from counted_of coordinates_good entries_good step_good size_good tolerance_good numbers_good point_room abs_of strokes_of gather point_at joined non_empty outside_of span_ends followed_by walk walk_from stroke_walked walks_of halvings_of spent begun spent_stroke spent_all of_bits of_fields add sub mul div lt le
cases = (refl, (refl, (refl, tt)))
