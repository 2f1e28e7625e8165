-- `spread` meets its contract.
use Rattle.std.proofs.Common.{arith}
use Rattle.path_classes.proofs.Same.{product_lt}
use Rattle.path_classes.proofs.spread.Goals as goal

pub overflow_mul-l : goal.overflow_mul-l
overflow_mul-l c = record { fits = product_lt _ _ (omega arith) (omega arith) }

pub overflow_mul-h : goal.overflow_mul-h
overflow_mul-h c = record { fits = product_lt _ _ (omega arith) (omega arith) }
