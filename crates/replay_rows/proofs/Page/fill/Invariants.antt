-- `fill` meets its contract. The elements before i are as the row's words say, and the others are as they were.
use Rattle.std.proofs.Common.{◌≡◌, ℕ}
use Rattle.replay_rows.specs.Words.{past_of}
use Rattle.replay_rows.specs.Pages.{word_of}
use Rattle.replay_rows.specs.Lists.{filled}
use Rattle.replay_rows.proofs.Page.fill.Given as goal

abbrev pub invariant-loop-i : goal.invariant-loop-i
invariant-loop-i g l = l.list ≡ filled (λ (j : ℕ). g.T.Element.of (word_of l.self (past_of l.at j))) l.initial.list l.i
