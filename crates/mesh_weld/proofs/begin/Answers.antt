-- `begin` meets its contract: what lies ahead is what the bucket of the cell holds.
use mathlib.Core.Path.{ap}
use Prim.Native.Nat.{ℕ}
use lib.ListN.{get_or}
use Rattle.mesh_weld.specs.InnerTable.{way_at, way_of, cube}
use Rattle.mesh_weld.proofs.begin.Goals as goal

pub returns : goal.returns
unfolding way_of
returns c = ap (λ (x : ℕ). way_at (get_or c.args.scratch.now x 0) (cube c.args.x c.args.y c.args.z)) c.bucket-at.ensures.0
