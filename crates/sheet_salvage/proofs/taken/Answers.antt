use mathlib.Core.Path.{ap, ◌∙◌}
use Prim.Native.Nat.{ℕ}
use native.Mathlib.Omega.{arith}
use Rattle.sheet.specs.Sheets.{numbers_from}
use Rattle.sheet_salvage.proofs.Held.{none-taken, some_taken}
use Rattle.sheet_salvage.proofs.taken.Goals as goal

pub returns-then-held-k : goal.returns-then-held-k
returns-then-held-k c =
    let e = c.numbers_from-k.ensures ∙ ap (λ (s : ℕ). numbers_from s) c.word_at.ensures in
    record { value = none-taken c.args.bytes.now _ e c.if-held-k.true; upper_bound = omega arith }

pub returns : goal.returns
returns c =
    let e = c.numbers_from-k.ensures ∙ ap (λ (s : ℕ). numbers_from s) c.word_at.ensures in
    let pair = some_taken c.args.bytes.now _ e _ _ _ c.word_at-2.ensures c.lesser.ensures c.lesser-2.ensures in
    record { value = pair.0; upper_bound = pair.1 }
