-- `mode_word` meets its contract.
use mathlib.Core.Path.{sym, ap, ◌∙◌}
use mathlib.Core.Bool.{Bool, cond}
use Prim.Native.Nat.{ℕ}
use Rattle.sheet.specs.Sheets.{mode_good, mode_word}
use Rattle.sheet.proofs.mode_word.Goals as goal

pub returns-then-mode_good : goal.returns-then-mode_good
unfolding mode_word
returns-then-mode_good c = ap (λ (b : Bool). cond b c.meant-m.result 0) (sym c.if-mode_good.true ∙ c.mode_good.ensures) ∙ ap (λ (n : ℕ). cond (mode_good n) n 0) c.meant-m.ensures

pub returns : goal.returns
unfolding mode_word
returns c = ap (λ (b : Bool). cond b c.meant-m.result 0) (sym c.if-mode_good.false ∙ c.mode_good.ensures) ∙ ap (λ (n : ℕ). cond (mode_good n) n 0) c.meant-m.ensures
