-- `label` meets its contract. The first x points in the order have their class, and c is that of the last of them.
use Rattle.path_classes.proofs.Labels.{Labelled}
use Rattle.path_classes.proofs.label.Given as goal

abbrev pub invariant-loop-x : goal.invariant-loop-x
invariant-loop-x l = Labelled l.points l.m l.initial.s l.s l.x l.c
