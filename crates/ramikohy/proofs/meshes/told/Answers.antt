-- `told` meets its contract: by what the refusal carries.
use mathlib.Core.Path.{sym, ap, ◌∙◌}
use Prim.Native.Nat.{ℕ}
use lib.ListN.{get_or}
use Rattle.refusal.specs.Said.{Said, option_said}
use Rattle.ramikohy.proofs.meshes.told.Goals as goal

pub returns-in-Some : goal.returns-in-Some
returns-in-Some c = (c.number.ensures, ap (λ (x : Said ℕ). get_or x.values 0 c.args.face.now) (ap option_said (sym c.in-Some.is) ∙ c.carried_by.ensures))

pub returns-in-None : goal.returns-in-None
returns-in-None c = (c.number-in-None.ensures, ap (λ (x : Said ℕ). get_or x.values 0 c.args.face.now) (ap option_said (sym c.in-None.is) ∙ c.carried_by.ensures))
