-- The paper's cases of drawing, by computation.
use mathlib.Core.Path.{refl}
use lib.Ieee.{of_bits, of_fields, span as fspan, climb, size, odd, units, round, neg, sum, add, sub, mul, div, lt, le, eq}
use Rattle.refusal.specs.Each.{Each}
use Rattle.order.specs.Order.{insert, order}
use Rattle.vector.specs.Abs.{abs_of}
use Rattle.vector.specs.Root.{root_of}
use Rattle.path.specs.Strokes.{point_at}
use Rattle.path_splice_rule.specs.Splice.{splice, links, link_from, link_end, tie, pick, onward, after, run, from, pass, at_free, at_last, chains_of, last_of, first_of, present, end_of, turned, value_at, joinable, read_from, added, read_chain}
use Rattle.mesh_seen.specs.Normals.{normal_of, facing_of}
use Rattle.mesh_edges.specs.Edges.{up_from, sides_of, grow, groups_of, edges_of}
use Rattle.mesh_edges.specs.Flips.{flipped}
use Rattle.mesh_keep.specs.Keep.{some_turns, kept_by}
use Rattle.mesh_strokes.specs.Draw.{flip_of, kept, strokes_by, kept_of, drawing_of}
use Rattle.mesh_strokes.specs.Cases.{Holds, paper}

pub cases : Each Holds paper
unfolding paper drawing_of kept_of strokes_by kept kept_by flip_of some_turns flipped edges_of groups_of grow sides_of up_from normal_of facing_of insert order abs_of root_of point_at splice links link_from link_end tie pick onward after run from pass at_free at_last chains_of last_of first_of present end_of turned value_at joinable read_from added read_chain of_bits of_fields fspan climb size odd units round neg sum add sub mul div lt le eq
cases = (refl, (refl, (refl, tt)))
