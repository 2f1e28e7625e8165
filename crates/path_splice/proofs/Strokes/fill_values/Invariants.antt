-- `fill_values` meets its contract. The words below e have the values of their ends.
use mathlib.Core.Path.{◌≡◌}
use Prim.Native.Nat.{ℕ, ◌<◌}
use lib.ListN.{get_or}
use Rattle.path.specs.Strokes.{strokes_in}
use Rattle.path_splice_rule.specs.Splice.{value_at}
use Rattle.path_splice.proofs.Strokes.fill_values.Given as goal

abbrev pub invariant-loop-e : goal.invariant-loop-e
invariant-loop-e l = (j : ℕ) → j < l.e → get_or l.v j 0 ≡ value_at 0 (strokes_in l.self.points.now l.self.starts.now) j
