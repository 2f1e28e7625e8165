-- `ramikohy_sqrt` meets its contract, by that of `sqrt` and of the refusal's number.
use mathlib.Core.Path.{sym, ap, ◌∙◌}
use Rattle.refusal.specs.Said.{value_said}
use Rattle.ramikohy.specs.Status.{valued, valued_by}
use Rattle.ramikohy.proofs.ramikohy_sqrt.Goals as goal

pub returns-in-Ok : goal.returns-in-Ok
returns-in-Ok c = ap (λ s. valued_by s c.args.root.now) (ap value_said (sym c.in-Ok.is) ∙ c.sqrt.ensures)

pub returns-in-Err : goal.returns-in-Err
returns-in-Err c =
    let old = c.args.root.now in
    ap (λ n. valued n old) c.number.ensures ∙ ap (λ s. valued_by s old) (ap value_said (sym c.in-Err.is) ∙ c.sqrt.ensures)
