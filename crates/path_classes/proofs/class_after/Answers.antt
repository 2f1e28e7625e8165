-- `class_after` meets its contract.
use Rattle.path_classes.proofs.class_after.Goals as goal

pub returns-then-same_point : goal.returns-then-same_point
returns-then-same_point c = rw (← c.point_at.ensures, ← c.point_at-2.ensures, ← c.same_point.ensures, c.if-same_point.true)

pub returns : goal.returns
returns c = rw (← c.point_at.ensures, ← c.point_at-2.ensures, ← c.same_point.ensures, c.if-same_point.false)
