use native.Mathlib.Omega.{arith}
use borrow.Author.Tests.{lt-ltb, le-ltb}
use Rattle.sheet_salvage.proofs.start_after.Goals as goal

pub returns-then-s-a : goal.returns-then-s-a
returns-then-s-a c = rw (← c.word_at-s.ensures, le-ltb c.args.a c.word_at-s.result (omega arith))

pub returns-then-m-s : goal.returns-then-m-s
returns-then-m-s c = rw (← c.word_at-s.ensures, lt-ltb c.args.a c.word_at-s.result (omega arith), le-ltb c.word_at-s.result c.args.m (omega arith))

pub returns : goal.returns
returns c = rw (← c.word_at-s.ensures, lt-ltb c.args.a c.word_at-s.result (omega arith), lt-ltb c.word_at-s.result c.args.m (omega arith))
