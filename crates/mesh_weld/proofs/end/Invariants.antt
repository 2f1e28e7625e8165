-- `end` meets its contract. Where the way from here ends, the way from its bucket ends; each slot that it comes to lies
-- in the table after the last, and the slots that are left fall.
use Prim.Native.Nat.{◌+◌, ◌-◌, ◌*◌}
use Rattle.mesh_weld.proofs.Walks.{Seek}
use Rattle.mesh_weld.proofs.end.Given as goal

abbrev pub invariant-loop-next : goal.invariant-loop-next
invariant-loop-next l = Seek l.scratch l.g.buckets l.g.count l.initial.q l.at l.next l.q

abbrev pub decreases-loop-next : goal.decreases-loop-next
decreases-loop-next l = l.g.buckets + l.g.count * 2 - l.at
