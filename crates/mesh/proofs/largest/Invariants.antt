-- `largest` meets its contract. All numbers are below an n that is not 0 where the largest so far and those that are left are.
use mathlib.Core.Bool.{◌&&◌}
use mathlib.Core.Path.{◌≡◌}
use Prim.Native.Nat.{ℕ, ◌<◌}
use lib.Dec.{ltb}
use lib.ListN.{drop}
use Rattle.mesh.specs.Meshes.{all_below}
use Rattle.mesh.proofs.largest.Given as goal

abbrev pub invariant-loop-index : goal.invariant-loop-index
invariant-loop-index l = (n : ℕ) → 0 < n → all_below n l.indices ≡ (ltb l.m n && all_below n (drop l.index-index l.indices))
