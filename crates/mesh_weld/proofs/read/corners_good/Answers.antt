use mathlib.Core.Path.{sym, ap, ◌∙◌}
use mathlib.Core.Bool.{Bool, ◌&&◌}
use Prim.Native.Nat.{◌+◌}
use native.Mathlib.Omega.{arith}
use Rattle.mesh_weld.proofs.Files.{good_from, good_turn, good-end, good-all}
use Rattle.mesh_weld.proofs.read.corners_good.Goals as goal

pub loop-i-init : goal.loop-i-init
loop-i-init c = (good-all c.args.bytes.now c.args.n c.requires)

pub returns-then-not-corner_good : goal.returns-then-not-corner_good
returns-then-not-corner_good c =
    let bs = c.args.bytes.now in
    let g = sym c.corner_good.ensures ∙ c.if-not-corner_good.true in
    sym (ap (λ (b : Bool). b && good_from bs (c.loop-i.i + 1) c.args.n) g) ∙ sym (good_turn bs c.loop-i.i c.args.n c.loop-i-test.true) ∙ c.loop-i.invariant

pub loop-i-preserved : goal.loop-i-preserved
loop-i-preserved c =
    let bs = c.args.bytes.now in
    let g = sym c.corner_good.ensures ∙ c.if-not-corner_good.false in
    sym (ap (λ (b : Bool). b && good_from bs (c.loop-i.i + 1) c.args.n) g) ∙ sym (good_turn bs c.loop-i.i c.args.n c.loop-i-test.true) ∙ c.loop-i.invariant

pub returns : goal.returns
returns c = sym (good-end c.args.bytes.now c.loop-i.i c.args.n (omega arith)) ∙ c.loop-i.invariant
