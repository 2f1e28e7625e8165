-- Joined segments, by computation.
use mathlib.Core.Path.{refl}
use lib.Ieee.{of_bits, of_fields}
use Rattle.refusal.specs.Each.{Each}
use Rattle.path_splice_rule.specs.Splice.{pick, tie, link_end, link_from, links, onward, after, run, from, pass, at_free, at_last, chains_of, last_of, first_of, present, end_of, turned, value_at, joinable, read_from, added, read_chain, splice}
use Rattle.path_classes.specs.Classes.{same_exponent, same_number, same_point}
use Rattle.path_segments.specs.Join.{join_of}
use Rattle.path_segments.specs.Cases.{Holds, worked}

pub cases : Each Holds worked
unfolding worked join_of splice links link_from link_end pick tie chains_of pass from run after onward at_free at_last last_of first_of present end_of turned value_at joinable read_from added read_chain same_point same_number same_exponent of_bits of_fields
cases = (refl, (refl, (refl, tt)))
