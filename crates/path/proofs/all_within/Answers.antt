use borrow.Author.Rules.{rules}
use mathlib.Core.Bool.{Bool, true, false, ◌&&◌}
use mathlib.Core.Path.{◌≡◌, refl, sym, ◌∙◌}
use native.Mathlib.Omega.{arith}
use lib.Dec.{eqb}
use Rattle.path.proofs.Tests.{good_turn, good-all}
use Rattle.path.proofs.all_within.Goals as goal

-- where nothing is left
whole : (a b : Bool) → b ≡ true → a ≡ a && b
whole true b e = sym e
whole false b e = refl

pub loop-x-init : goal.loop-x-init
loop-x-init c = (omega arith, refl)

pub overflow_add-bad : goal.overflow_add-bad
overflow_add-bad c = omega (arith, (good_turn c.args.most c.args.xs.now c.loop-x.x-index (search rules) c.loop-x.bad c.past-bad.result c.past-bad.ensures).0)

pub loop-x-preserved : goal.loop-x-preserved
loop-x-preserved c =
    let t = good_turn c.args.most c.args.xs.now c.loop-x.x-index (search rules) c.loop-x.bad c.past-bad.result c.past-bad.ensures in
    (omega (arith, t.0), t.1 ∙ c.loop-x.invariant.1)

pub returns : goal.returns
returns c =
    let xs = c.args.xs.now in
    whole (eqb c.loop-x.bad 0) _ (good-all c.args.most xs c.loop-x.x-index (search rules)) ∙ c.loop-x.invariant.1
