-- `splice_verdict` meets its contract.
use mathlib.Core.Path.{sym, ◌∙◌}
use native.Mathlib.Omega.{arith}
use borrow.Author.Tests.{le-leb, lt-leb}
use Rattle.refusal.specs.Refusals.{unless}
use Rattle.path_splice.specs.Call.{verdict_of}
use Rattle.path_splice.proofs.Answers.{within-limits}
use Rattle.path_splice.proofs.splice_verdict.Goals as goal

pub returns-then-not-rising : goal.returns-then-not-rising
unfolding verdict_of unless
returns-then-not-rising c = rw (sym c.rising.ensures ∙ c.if-not-rising.true)

pub returns-then-not-counted : goal.returns-then-not-counted
unfolding verdict_of unless
returns-then-not-counted c = rw (sym c.rising.ensures ∙ c.if-not-rising.false, sym c.counted.ensures ∙ c.if-not-counted.true)

pub overflow_mul-starts : goal.overflow_mul-starts
overflow_mul-starts c = omega (arith, within-limits _ _ (sym c.counted.ensures ∙ c.if-not-counted.false))

pub returns-then-words-starts : goal.returns-then-words-starts
unfolding verdict_of unless
returns-then-words-starts c = rw (sym c.rising.ensures ∙ c.if-not-rising.false, sym c.counted.ensures ∙ c.if-not-counted.false, lt-leb _ _ c.if-words-starts.true)

pub returns-then-room-points : goal.returns-then-room-points
unfolding verdict_of unless
returns-then-room-points c = rw (sym c.rising.ensures ∙ c.if-not-rising.false, sym c.counted.ensures ∙ c.if-not-counted.false, le-leb _ _ c.if-words-starts.false, lt-leb _ _ c.if-room-points.true)

pub returns-then-start_room-starts : goal.returns-then-start_room-starts
unfolding verdict_of unless
returns-then-start_room-starts c = rw (sym c.rising.ensures ∙ c.if-not-rising.false, sym c.counted.ensures ∙ c.if-not-counted.false, le-leb _ _ c.if-words-starts.false, le-leb _ _ c.if-room-points.false, lt-leb _ _ c.if-start_room-starts.true)

pub returns : goal.returns
unfolding verdict_of unless
returns c = rw (sym c.rising.ensures ∙ c.if-not-rising.false, sym c.counted.ensures ∙ c.if-not-counted.false, le-leb _ _ c.if-words-starts.false, le-leb _ _ c.if-room-points.false, le-leb _ _ c.if-start_room-starts.false)
