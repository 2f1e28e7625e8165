-- `some_turns` meets its contract. Among the sides that are left one turns where one of all turns.
use mathlib.Core.Path.{◌≡◌}
use lib.ListN.{drop}
use Rattle.mesh_keep.specs.Keep.{some_turns, faces_of, seen_in}
use Rattle.mesh_keep.proofs.some_turns.Given as goal

abbrev pub invariant-loop-side : goal.invariant-loop-side
invariant-loop-side l = some_turns (seen_in l.seen) l.tolerance l.f (faces_of (drop l.side-index l.sides)) ≡ some_turns (seen_in l.seen) l.tolerance l.f (faces_of l.sides)
