-- `ramikohy_normalize` meets its contract, by those of what it calls.
use mathlib.Core.Path.{sym, ap, ◌∙◌}
use Rattle.refusal.specs.Said.{option_said}
use Rattle.vector.specs.Lengths.{unit_of}
use Rattle.ramikohy.specs.Points.{point_of}
use Rattle.ramikohy.specs.Status.{valued, valued_by_unit}
use Rattle.ramikohy.proofs.ramikohy_normalize.Goals as goal

pub returns-in-Some : goal.returns-in-Some
returns-in-Some c =
    let old = c.args.out.now in
    ap (valued 0) c.put.ensures
    ∙ ap (λ s. valued_by_unit s (point_of old)) (ap option_said (sym c.in-Some.is) ∙ c.normalize.ensures ∙ ap unit_of c.point.ensures)

pub returns-in-None : goal.returns-in-None
returns-in-None c =
    let old = c.args.out.now in
    ap (λ s. valued_by_unit s (point_of old)) (ap option_said (sym c.in-None.is) ∙ c.normalize.ensures ∙ ap unit_of c.point.ensures)
