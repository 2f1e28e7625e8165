-- The paper's proved cases of splicing, by computation.
use mathlib.Core.Path.{refl}
use Rattle.refusal.specs.Each.{Each}
use Rattle.refusal.specs.Refusals.{unless}
use Rattle.refusal.specs.Outcome.{outcome}
use Rattle.path.specs.Strokes.{good_from, good_starts, gather, strokes_of}
use Rattle.path.specs.Laid.{over, joined, starts_from}
use Rattle.path.specs.Tests.{counted_of}
use Rattle.path_splice_rule.specs.Splice.{splice, links, link_from, link_end, tie, pick, onward, after, run, from, pass, at_free, at_last, chains_of, last_of, first_of, present, end_of, turned, value_at, joinable, read_from, added, read_chain}
use Rattle.path_splice.specs.Call.{verdict_of, laid, splice_left}
use Rattle.path_splice.specs.Cases.{Holds, paper}

pub cases : Each Holds paper
unfolding paper splice_left outcome laid verdict_of counted_of unless good_starts good_from gather strokes_of joined starts_from over splice links link_from link_end tie pick onward after run from pass at_free at_last chains_of last_of first_of present end_of turned value_at joinable read_from added read_chain
cases = (refl, (refl, tt))
