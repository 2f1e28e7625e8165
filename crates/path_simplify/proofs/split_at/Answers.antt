-- `split_at` meets its contract.
use Rattle.path_simplify.specs.InnerSquares.{split_of}
use Rattle.path_simplify.proofs.split_at.Goals as goal

pub returns-then-splits : goal.returns-then-splits
unfolding split_of
returns-then-splits c = rw (← c.find_far-f.ensures, ← c.splits.ensures, c.if-splits.true)

pub returns : goal.returns
unfolding split_of
returns c = rw (← c.find_far-f.ensures, ← c.splits.ensures, c.if-splits.false)
