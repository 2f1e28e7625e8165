-- `write_header` meets its contract.
use mathlib.Core.Path.{ap}
use Prim.Native.Nat.{ℕ, ◌*◌}
use Rattle.sheet_write.proofs.Kepts.{header_put}
use Rattle.sheet_write.proofs.write_header.Goals as goal

pub returns : goal.returns
returns c = header_put c.args.out.now c.args.mode c.args.vertices c.args.strokes c.args.points _ (ap (λ (k : ℕ). 4 * k) c.numbers_from.ensures) _ _ _ _ _ _ c.put_word.ensures c.put_word-2.ensures c.put_word-3.ensures c.put_word-4.ensures c.put_word-5.ensures c.put_word-6.ensures
