-- `all_exact` meets its contract. What there is to say of the coordinates from the i-th on is what there is to say of
-- all.
use mathlib.Core.Path.{◌≡◌}
use lib.ListN.{drop}
use Rattle.stl.specs.Files.{all_single}
use Rattle.stl_write.proofs.all_exact.Given as goal

abbrev pub invariant-loop-x : goal.invariant-loop-x
invariant-loop-x l = all_single (drop l.x-index l.vertices) ≡ all_single l.vertices
