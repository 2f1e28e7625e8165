-- `number_at` meets its contract.
use lib.Ieee.{nan}
use lib.ListN.{get_or-eq_default}
use mathlib.Core.Path.{sym, ◌∙◌}
use Rattle.path.proofs.number_at.Goals as goal

pub returns : goal.returns
returns c = c.nothing.ensures ∙ sym (get_or-eq_default c.args.points.now nan c.if-k-points.false)
