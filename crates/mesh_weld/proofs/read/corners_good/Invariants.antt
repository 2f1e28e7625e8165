-- `corners_good` meets its contract. Whether the corners from i on are good is whether all are.
use mathlib.Core.Path.{◌≡◌}
use Rattle.path.specs.Tests.{coordinates_good}
use Rattle.stl.specs.Files.{coordinates_in}
use Rattle.mesh_weld.proofs.Files.{good_from}
use Rattle.mesh_weld.proofs.read.corners_good.Given as goal

abbrev pub invariant-loop-i : goal.invariant-loop-i
invariant-loop-i l = (good_from l.bytes l.i l.n ≡ coordinates_good (coordinates_in l.bytes))
