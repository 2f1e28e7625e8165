-- What is read again is no longer than what was written.
use Rattle.std.proofs.Common.{arith, length-take}
use Rattle.cases_stl.proofs.write_and_read.Goals as goal

pub slice_bounds-read_with-end-2 : goal.slice_bounds-read_with-end-2
slice_bounds-read_with-end-2 g c = simp length-take (omega arith)
