-- `by_words` meets its contract. The numbers are in the order of the first j words of their points, and no word before them
-- or after the keys is changed.
use Rattle.path_classes.specs.InnerKeys.{word_order, Ordered}
use Rattle.path_classes.proofs.by_words.Given as goal

abbrev pub invariant-loop-j : goal.invariant-loop-j
invariant-loop-j l = Ordered l.initial.s l.s l.m (word_order l.points l.j)
