use mathlib.Core.Path.{sym, ◌∙◌}
use Rattle.sheet_write.proofs.Kepts.{place_turn, count-end, put-turn, put-end}
use Prim.Native.Nat.{◌*◌}
use native.Mathlib.Omega.{arith}
use Rattle.sheet_write.proofs.write_starts.Goals as goal

pub loop-i-preserved : goal.loop-i-preserved
loop-i-preserved c =
    (omega (arith, c.put_start-k.ensures.value.1), place_turn c.args.n c.args.starts.now c.loop-i.i (omega arith) c.loop-i.k _ _ c.put_start-k.ensures.value.0 c.loop-i.invariant.1, put-turn c.args.n c.args.starts.now c.loop-i.i (omega arith) c.loop-i.out _ c.loop-i.k _ c.put_start-k.ensures.out_after c.put_start-k.ensures.value.0 ∙ c.loop-i.invariant.2)

pub returns : goal.returns
returns c = record { out_after = sym (put-end c.args.n c.args.starts.now c.loop-i.i (omega arith) c.loop-i.out (c.loop-i.k * 4)) ∙ c.loop-i.invariant.2; value = (count-end c.args.n c.args.starts.now c.loop-i.i (omega arith) c.loop-i.k _ c.loop-i.invariant.1, omega arith) }
