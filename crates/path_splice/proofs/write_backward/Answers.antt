-- `write_backward` meets its contract.
use mathlib.Core.Path.{◌≡◌, sym, ◌∙◌}
use Prim.Native.Nat.{◌+◌, ◌-◌}
use native.Mathlib.Omega.{arith}
use Rattle.path_splice.proofs.Tables.{backward_turn, backward_end}
use Rattle.path_splice.proofs.write_backward.Goals as goal

pub loop-i-preserved : goal.loop-i-preserved
loop-i-preserved c =
    let i = c.args.e - c.loop-i.i in
    let at : c.args.at + (c.loop-i.i + 1) ≡ c.args.at + c.loop-i.i + 1 = omega arith in
    let next : c.args.e - (c.loop-i.i + 1) ≡ i - 1 = omega arith in
    let from : c.args.e - 1 - c.loop-i.i ≡ i - 1 = omega arith in
    rw (at, next, from) (backward_turn c.args.points.now c.args.a i c.loop-i.out (c.args.at + c.loop-i.i) (omega arith) (omega arith)) ∙ c.loop-i.invariant

pub returns : goal.returns
returns c = sym (backward_end c.args.points.now c.args.a (c.args.e - c.loop-i.i) c.loop-i.out (c.args.at + c.loop-i.i) (omega arith)) ∙ c.loop-i.invariant
