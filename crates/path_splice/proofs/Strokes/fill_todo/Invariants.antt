-- `fill_todo` meets its contract. The words below i say whether their strokes have points.
use mathlib.Core.Path.{◌≡◌}
use Prim.Native.Nat.{ℕ, ◌<◌}
use lib.ListN.{get_or}
use mathlib.Core.List.{[]}
use Rattle.path.specs.Strokes.{strokes_in}
use Rattle.path_splice_rule.specs.Splice.{present}
use Rattle.path_splice.proofs.Strokes.fill_todo.Given as goal

abbrev pub invariant-loop-i : goal.invariant-loop-i
invariant-loop-i l = (j : ℕ) → j < l.i → get_or l.t j 0 ≡ present (get_or (strokes_in l.self.points.now l.self.starts.now) j [])
