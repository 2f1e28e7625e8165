-- `past` meets its contract.
use mathlib.Core.Path.{sym, ap, ◌∙◌}
use mathlib.Core.Bool.{Bool, cond}
use Rattle.path.proofs.past.Goals as goal

pub returns-then-within : goal.returns-then-within
returns-then-within c = sym (ap (λ (b : Bool). cond b 0 1) (sym c.within.ensures ∙ c.if-within.true))

pub returns : goal.returns
returns c = sym (ap (λ (b : Bool). cond b 0 1) (sym c.within.ensures ∙ c.if-within.false))
