-- `put_mark` meets its contract.
use native.Mathlib.Omega.{arith}
use mathlib.Core.Path.{ap, ◌∙◌}
use lib.ListN.{length}
use Rattle.path_splice.proofs.Readings.{mark_none, mark_one, put-none, put-single}
use Rattle.path_splice.proofs.put_mark.Goals as goal

pub returns-then-x-eq0 : goal.returns-then-x-eq0
returns-then-x-eq0 c =
    let e = mark_none c.args.p c.args.x c.if-x-eq0.true in
    (put-none c.args.out.now c.args.q _ e, omega (arith, ap length e))

pub returns : goal.returns
returns c =
    let e = mark_one c.args.p c.args.x c.if-x-eq0.false in
    (c.put.ensures ∙ put-single c.args.out.now c.args.q c.args.p _ e, omega (arith, ap length e))
