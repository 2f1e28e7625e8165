-- `bucket` meets its contract: a number below 2 ^ 32 times m does not wrap, and its share of m is below m.
use native.Mathlib.Omega.{arith}
use Rattle.mesh_weld.specs.InnerTable.{bucket_of}
use Rattle.mesh_weld.proofs.Cells.{bucket_lt}
use Rattle.mesh_weld.proofs.bucket.Goals as goal

pub returns : goal.returns
unfolding bucket_of
returns c = (rw (c.folded.ensures.0, c.folded-2.ensures.0, c.folded-3.ensures.0), bucket_lt _ c.args.g.buckets (omega arith) (omega arith))
