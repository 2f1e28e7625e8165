-- `begins` meets its contract: the elements from the i-th on decide what all decide.
use Rattle.std.proofs.Common.{◌≡◌, drop}
use Rattle.replay_rows.specs.Lists.{held, expected}
use Rattle.replay_rows.proofs.Page.begins.Given as goal

abbrev pub invariant-loop-i : goal.invariant-loop-i
invariant-loop-i g l = held g.T.Element.is (expected l.self l.at l.n l.rest) l.i (drop l.i l.list) ≡ held g.T.Element.is (expected l.self l.at l.n l.rest) 0 l.list
