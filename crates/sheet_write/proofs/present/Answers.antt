-- `present` meets its contract.
use mathlib.Core.Path.{◌≡◌, refl, ap, ◌∙◌}
use mathlib.Core.Bool.{Bool, true, false, cond}
use mathlib.Core.List.{[], ◌∷◌}
use Prim.Native.Nat.{ℕ}
use lib.ListN.{length}
use mir.Val.{bool_byte}
use Rattle.sheet.specs.InnerKept.{kept_at}
use Rattle.sheet_write.proofs.present.Goals as goal

size : (b : Bool) (s : ℕ) → bool_byte b ≡ length (cond b (s ∷ []) [])
size true s = refl
size false s = refl

pub returns-clause-value : goal.returns-clause-value
unfolding kept_at
returns-clause-value c = ap bool_byte c.has_points.ensures ∙ size _ _
