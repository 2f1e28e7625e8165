use mathlib.Core.Path.{sym, ap, ◌∙◌}
use mathlib.Core.List.{List}
use Prim.Native.Nat.{ℕ, ◌+◌, ◌-◌}
use native.Mathlib.Omega.{arith}
use lib.Seq.{sets}
use Rattle.path.specs.Strokes.{gather}
use Rattle.sheet.specs.Sheets.{word_at}
use Rattle.sheet_read.proofs.Loops.{copy_turn, copy_end}
use Rattle.sheet_read.proofs.copy_words.Goals as goal

pub loop-i-preserved : goal.loop-i-preserved
loop-i-preserved c =
    let rest = gather (word_at c.args.bytes.now) (c.args.a + (c.loop-i.i + 1)) (c.args.n - (c.loop-i.i + 1)) in
    ap (λ (x : List ℕ). sets x (c.loop-i.i + 1) rest) c.put.ensures ∙ copy_turn (word_at c.args.bytes.now) c.args.a c.loop-i.i c.args.n (omega arith) c.loop-i.out _ c.word_at.ensures ∙ c.loop-i.invariant

pub returns : goal.returns
returns c = sym (copy_end (word_at c.args.bytes.now) c.args.a c.loop-i.i c.args.n (omega arith) c.loop-i.out c.loop-i.i) ∙ c.loop-i.invariant
