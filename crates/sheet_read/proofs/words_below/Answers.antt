use mathlib.Core.Path.{sym, ◌∙◌}
use native.Mathlib.Omega.{arith}
use Rattle.sheet.specs.Sheets.{word_at}
use Rattle.sheet_read.proofs.Loops.{below-turn, below-not, below_end}
use Rattle.sheet_read.proofs.words_below.Goals as goal

pub returns-then-n-word_at : goal.returns-then-n-word_at
returns-then-n-word_at c = sym (below-not (word_at c.args.bytes.now) c.loop-i.i c.args.e c.args.n _ (omega arith) c.word_at.ensures (omega arith)) ∙ c.loop-i.invariant

pub loop-i-preserved : goal.loop-i-preserved
loop-i-preserved c = below-turn (word_at c.args.bytes.now) c.loop-i.i c.args.e c.args.n _ (omega arith) c.word_at.ensures (omega arith) ∙ c.loop-i.invariant

pub returns : goal.returns
returns c = sym (below_end (word_at c.args.bytes.now) c.loop-i.i c.args.e c.args.n (omega arith)) ∙ c.loop-i.invariant
