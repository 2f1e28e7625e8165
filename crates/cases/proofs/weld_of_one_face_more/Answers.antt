-- How many coordinates there are follows by a law: no check walks through so many.
use Rattle.std.proofs.Common.{sym}
use lib.Ieee.{Float, of_bits, binary64}
use lib.ListN.{length-replicate}
use Rattle.cases.proofs.weld_of_one_face_more.Goals as goal

pub slice_bounds-weld-end : goal.slice_bounds-weld-end
slice_bounds-weld-end g c = sym (length-replicate {A = Float} 589833 (of_bits binary64 0))
