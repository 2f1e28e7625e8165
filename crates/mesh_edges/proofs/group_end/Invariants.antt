-- `group_end` meets its contract. The end of the group as the places from q on tell it is the end as those after p tell
-- it.
use mathlib.Core.Path.{◌≡◌}
use Prim.Native.Nat.{◌+◌, ◌*◌, ◌<◌, ◌≤◌}
use lib.ListN.{length, get_or}
use Rattle.mesh_edges.specs.InnerWords.{pair_in}
use Rattle.mesh_edges.proofs.Ends.{from}
use Rattle.mesh_edges.proofs.group_end.Given as goal

abbrev pub invariant-loop-q : goal.invariant-loop-q
invariant-loop-q l = (l.p < l.q) × (l.v ≡ pair_in l.s l.n (get_or l.s (2 * l.n + l.p) 0)) × ((H : 5 * l.n ≤ length l.s) → from l.s l.n H (get_or l.s (2 * l.n + l.p) 0) l.q ≡ from l.s l.n H (get_or l.s (2 * l.n + l.p) 0) (l.p + 1))
