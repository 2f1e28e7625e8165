-- `corner_good` meets its contract.
use mathlib.Core.Path.{◌∙◌}
use native.Mathlib.Omega.{arith}
use Rattle.stl.proofs.Corners.{place}
use Rattle.stl.proofs.Sizes.{first, told, no_first, no_second, by_third, good-past}
use Rattle.stl.proofs.corner_good.Goals as goal

pub returns-then-bytes-f : goal.returns-then-bytes-f
returns-then-bytes-f c = good-past c.args.bytes.now c.args.i c.if-bytes-f.true

pub returns-then-not-pattern_good : goal.returns-then-not-pattern_good
returns-then-not-pattern_good c = no_first c.args.bytes.now c.args.i (told c.args.bytes.now (first c.args.i) c.word_from.ensures c.pattern_good.ensures ∙ c.if-not-pattern_good.true)

pub returns-then-not-pattern_good-2 : goal.returns-then-not-pattern_good-2
returns-then-not-pattern_good-2 c =
    no_second c.args.bytes.now c.args.i
    (told c.args.bytes.now (first c.args.i) c.word_from.ensures c.pattern_good.ensures ∙ c.if-not-pattern_good.false)
    (told c.args.bytes.now (place c.args.i 1 (omega arith)) c.word_from-2.ensures c.pattern_good-2.ensures ∙ c.if-not-pattern_good-2.true)

pub returns : goal.returns
returns c =
    by_third c.args.bytes.now c.args.i
    (told c.args.bytes.now (first c.args.i) c.word_from.ensures c.pattern_good.ensures ∙ c.if-not-pattern_good.false)
    (told c.args.bytes.now (place c.args.i 1 (omega arith)) c.word_from-2.ensures c.pattern_good-2.ensures ∙ c.if-not-pattern_good-2.false)
    (told c.args.bytes.now (place c.args.i 2 (omega arith)) c.word_from-3.ensures c.pattern_good-3.ensures)
