-- `write_forward` meets its contract.
use mathlib.Core.Path.{◌≡◌, sym, ◌∙◌}
use Prim.Native.Nat.{◌+◌, ◌-◌}
use native.Mathlib.Omega.{arith}
use Rattle.path_splice.proofs.Tables.{forward_turn, forward_end}
use Rattle.path_splice.proofs.write_forward.Goals as goal

pub loop-i-preserved : goal.loop-i-preserved
loop-i-preserved c =
    let i = c.args.a + c.loop-i.i in
    let at : c.args.at + (c.loop-i.i + 1) ≡ c.args.at + c.loop-i.i + 1 = omega arith in
    let next : c.args.a + (c.loop-i.i + 1) ≡ i + 1 = omega arith in
    rw (at, next) (forward_turn c.args.points.now i c.args.e c.loop-i.out (c.args.at + c.loop-i.i) (omega arith) (omega arith)) ∙ c.loop-i.invariant

pub returns : goal.returns
returns c = sym (forward_end c.args.points.now (c.args.a + c.loop-i.i) c.args.e c.loop-i.out (c.args.at + c.loop-i.i) (omega arith)) ∙ c.loop-i.invariant
