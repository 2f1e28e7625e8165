-- `fill_sides` meets its contract. The words are those with the first k sides written.
use mathlib.Core.Path.{◌≡◌}
use Rattle.mesh_edges.specs.InnerSteps.{sides_to}
use Rattle.mesh_edges.proofs.fill_sides.Given as goal

abbrev pub invariant-loop-k : goal.invariant-loop-k
invariant-loop-k l = l.s ≡ sides_to l.initial.s l.indices l.n l.k
