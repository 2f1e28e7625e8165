-- `short_strokes` meets its contract. The strokes from the j-th on are short where all are.
use Rattle.path_simplify.specs.Call.{short_of}
use lib.ListN.{drop}
use mathlib.Core.Path.{◌≡◌}
use Rattle.path_simplify.proofs.short_strokes.Given as goal

abbrev pub invariant-loop-j : goal.invariant-loop-j
invariant-loop-j l = (short_of l.n (drop l.j l.starts) ≡ short_of l.n l.starts)
