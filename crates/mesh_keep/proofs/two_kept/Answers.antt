-- `two_kept` meets its contract.
use mathlib.Core.Path.{sym, ap, ◌∙◌}
use lib.Ieee.{Float, binary64, mul}
use Rattle.mesh_keep.specs.Keep.{ends_of}
use Rattle.mesh_keep.proofs.Keeps.{or_yes, or_no}
use Rattle.mesh_keep.proofs.two_kept.Goals as goal

pub returns-then-is_crease : goal.returns-then-is_crease
returns-then-is_crease c = or_yes _ _ (sym c.is_crease.ensures ∙ c.if-is_crease.true)

pub returns : goal.returns
returns c =
    let d = ap (λ (x : Float). mul binary64 x c.facing_at-2.result) c.facing_at.ensures ∙ ap (mul binary64 _) c.facing_at-2.ensures in
    c.ends_here.ensures ∙ ap (ends_of c.args.flip) d ∙ or_no _ _ (sym c.is_crease.ensures ∙ c.if-is_crease.false)
