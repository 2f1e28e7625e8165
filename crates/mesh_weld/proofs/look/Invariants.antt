-- `look` meets its contract. What is in one of the eight coarse cells is scored already, or ahead on the way of that
-- cell, and the number kept is the least of what is scored; the vertices that may still come on the ways fall.
use mathlib.Core.List.{List}
use Prim.Native.Nat.{◌-◌, ◌/◌}
use Rattle.mesh_weld.specs.declared.Cube.{Cube}
use Rattle.mesh_weld.specs.InnerTable.{score_at, all_ways, eight_from, top}
use Rattle.mesh_weld.proofs.Walks.{Looked, lefts}
use Rattle.mesh_weld.proofs.look.Given as goal

-- the coarse cells about a cell
abbrev pub homes : Cube → List Cube
homes c = eight_from ((c.x - 1) / 2) ((c.y - 1) / 2) ((c.z - 1) / 2)

abbrev pub invariant-loop-g : goal.invariant-loop-g
invariant-loop-g l = Looked l.vertices l.scratch (score_at l.vertices l.p l.c) l.g.buckets l.g.count (homes l.c) top l.best (all_ways l.w)

abbrev pub decreases-loop-g : goal.decreases-loop-g
decreases-loop-g l = lefts l.vertices l.scratch (score_at l.vertices l.p l.c) l.g.buckets l.g.count (all_ways l.w)
