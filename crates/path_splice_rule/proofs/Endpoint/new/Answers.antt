-- `Endpoint::new` meets its contract.
use native.Mathlib.Omega.{arith}
use Rattle.path_splice_rule.proofs.Endpoint.new.Goals as goal

pub returns-then-is_last : goal.returns-then-is_last
returns-then-is_last c = rw c.if-is_last.true (omega arith)

pub returns : goal.returns
returns c = rw c.if-is_last.false (omega arith)
