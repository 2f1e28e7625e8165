-- `keep_edges` meets its contract. The sides' words are as they were, and after them lie the m edges kept of the sides
-- before place p (`Went`); the sides that are left fall.
use mathlib.Core.Path.{◌≡◌}
use mathlib.Core.List.{List}
use Prim.Native.Nat.{ℕ, ◌-◌, ◌*◌, ◌≤◌}
use lib.ListN.{length, take}
use Rattle.order.specs.Regions.{region}
use Rattle.mesh_edges.specs.InnerWords.{side_words}
use Rattle.mesh_keep.specs.Keep.{seen_in}
use Rattle.mesh_strokes.specs.Draw.{kept}
use Rattle.mesh_strokes.proofs.Walks.{Went}
use Rattle.mesh_strokes.proofs.keep_edges.Given as goal

abbrev pub invariant-loop-p : goal.invariant-loop-p
invariant-loop-p l = (l.p ≤ length l.indices) × (l.m ≤ l.p) × (length l.s ≡ length l.initial.s) × (take (5 * length l.indices) l.s ≡ take (5 * length l.indices) l.initial.s)
    × ((flips : List ℕ) → take (5 * length l.indices) l.initial.s ≡ side_words l.indices flips → Went (kept l.mode (seen_in l.seen) flips l.tolerance) l.indices (region l.s (5 * length l.indices) (2 * l.m)) l.p)

abbrev pub decreases-loop-p : goal.decreases-loop-p
decreases-loop-p l = length l.indices - l.p
