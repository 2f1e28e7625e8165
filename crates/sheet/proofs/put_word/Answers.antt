-- `put_word` meets its contract.
use Prim.Native.Nat.{◌*◌}
use native.Mathlib.Omega.{arith}
use Rattle.byte_words.proofs.Words.{set-none}
use Rattle.sheet.proofs.put_word.Goals as goal

pub returns-else-k-out : goal.returns-else-k-out
returns-else-k-out c = set-none c.args.out.now (c.args.k * 4) c.args.w (omega (arith, c.if-k-out.false))
