use mathlib.Core.Path.{sym, ◌∙◌}
use native.Mathlib.Omega.{arith}
use Rattle.sheet.specs.Sheets.{word_at}
use Rattle.sheet_read.proofs.Loops.{strict-turn, strict-low, strict-high, strict_end}
use Rattle.sheet_read.proofs.strict_from.Goals as goal

pub returns-then-t-prev : goal.returns-then-t-prev
returns-then-t-prev c = sym (strict-low (word_at c.args.bytes.now) c.loop-i.i c.args.e c.args.n c.loop-i.prev _ (omega arith) c.word_at-t.ensures (omega arith)) ∙ c.loop-i.invariant

pub returns-then-n-t : goal.returns-then-n-t
returns-then-n-t c = sym (strict-high (word_at c.args.bytes.now) c.loop-i.i c.args.e c.args.n c.loop-i.prev _ (omega arith) c.word_at-t.ensures (omega arith) c.if-n-t.true) ∙ c.loop-i.invariant

pub loop-i-preserved : goal.loop-i-preserved
loop-i-preserved c = strict-turn (word_at c.args.bytes.now) c.loop-i.i c.args.e c.args.n c.loop-i.prev _ (omega arith) c.word_at-t.ensures (omega arith) c.if-n-t.false ∙ c.loop-i.invariant

pub returns : goal.returns
returns c = sym (strict_end (word_at c.args.bytes.now) c.loop-i.i c.args.e c.args.n c.loop-i.prev (omega arith)) ∙ c.loop-i.invariant
