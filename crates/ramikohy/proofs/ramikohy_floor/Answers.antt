-- `ramikohy_floor` meets its contract, by that of `floor` and of the refusal's number.
use mathlib.Core.Path.{sym, ap, ◌∙◌}
use Rattle.refusal.specs.Said.{value_said}
use Rattle.ramikohy.specs.Status.{valued, valued_by}
use Rattle.ramikohy.proofs.ramikohy_floor.Goals as goal

pub returns-in-Err : goal.returns-in-Err
returns-in-Err c =
    let old = c.args.whole.now in
    ap (λ n. valued n old) c.number.ensures ∙ ap (λ s. valued_by s old) (ap value_said (sym c.in-Err.is) ∙ c.floor.ensures)
