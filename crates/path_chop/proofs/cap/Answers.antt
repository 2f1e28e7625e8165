-- `cap` meets its contract.
use Rattle.path_chop.proofs.Counts.{cap_under, cap_over}
use native.Mathlib.Omega.{arith}
use mathlib.Core.Path.{sym}
use Rattle.path_chop.proofs.cap.Goals as goal

pub returns-then-n-gt-MOST_POINTS : goal.returns-then-n-gt-MOST_POINTS
returns-then-n-gt-MOST_POINTS c = sym (cap_over c.args.n (omega arith))

pub returns : goal.returns
returns c = sym (cap_under c.args.n (omega arith))
