use mathlib.Core.Path.{ap, ◌∙◌}
use Prim.Native.Nat.{ℕ, ◌+◌}
use native.Mathlib.Omega.{arith}
use borrow.Author.Tests.{eq-eqb, ne_eqb}
use Rattle.sheet_salvage.specs.Salvage.{changed}
use Rattle.sheet_salvage.proofs.Starts.{changed-few}
use Rattle.sheet_salvage.proofs.ignored.Goals as goal

pub returns-then-strokes-eq0 : goal.returns-then-strokes-eq0
returns-then-strokes-eq0 c = rw (eq-eqb c.args.strokes 0 c.if-strokes-eq0.true)

pub returns-then-m-eq0 : goal.returns-then-m-eq0
returns-then-m-eq0 c = rw (ne_eqb c.args.strokes 0 c.if-strokes-eq0.false, eq-eqb c.args.m 0 c.if-m-eq0.true)

pub overflow_add-result : goal.overflow_add-result
overflow_add-result c = let f = changed-few c.word_at.result 0 _ c.changed.ensures in omega arith

pub returns : goal.returns
returns c = rw (ne_eqb c.args.strokes 0 c.if-strokes-eq0.false, ne_eqb c.args.m 0 c.if-m-eq0.false) (ap (λ (x : ℕ). x + c.args.empty) (c.changed.ensures ∙ ap (λ (x : ℕ). changed x 0) c.word_at.ensures))
