-- `adaptive_verdict` meets its contract.
use Rattle.refusal.specs.Refusals.{unless}
use Rattle.refusal.specs.Limits.{most_points}
use Rattle.path_adaptive.specs.declared.View.{View}
use Rattle.path_adaptive.specs.Walk.{walks_of}
use Rattle.path_adaptive.specs.Call.{point_room, verdict_of}
use Rattle.path_adaptive.specs.Tally.{room_left, spent_all, verdict_by}
use Rattle.path_adaptive.specs.declared.View.{View}
use Rattle.path_adaptive.specs.Walk.{walks_of}
use Rattle.std.proofs.lemmas.Result.{err_from_is_err_and}
use Prim.Native.Nat.{◌/◌}
use native.Mathlib.Omega.{arith}
use native.Mathlib.Nat.{min-le_right}
use mathlib.Core.Path.{sym, ap, ◌∙◌}
use Rattle.path_adaptive.proofs.adaptive_verdict.Goals as goal

pub returns-then-not-shaped : goal.returns-then-not-shaped
unfolding verdict_of unless
returns-then-not-shaped c = simp (sym c.shaped.ensures ∙ c.if-not-shaped.true)

pub returns-then-not-counted : goal.returns-then-not-counted
unfolding verdict_of unless
returns-then-not-counted c = simp (sym c.shaped.ensures ∙ c.if-not-shaped.false, sym c.counted.ensures ∙ c.if-not-counted.true)

pub returns-then-not-coordinates_good : goal.returns-then-not-coordinates_good
unfolding verdict_of unless
returns-then-not-coordinates_good c = simp (sym c.shaped.ensures ∙ c.if-not-shaped.false, sym c.counted.ensures ∙ c.if-not-counted.false, sym c.coordinates_good.ensures ∙ c.if-not-coordinates_good.true)

pub returns-then-not-numbers_good : goal.returns-then-not-numbers_good
unfolding verdict_of unless
returns-then-not-numbers_good c = simp (sym c.shaped.ensures ∙ c.if-not-shaped.false, sym c.counted.ensures ∙ c.if-not-counted.false, sym c.coordinates_good.ensures ∙ c.if-not-coordinates_good.false, sym c.numbers_good.ensures ∙ c.if-not-numbers_good.true)

pub measure_strokes-requires : goal.measure_strokes-requires
unfolding point_room
measure_strokes-requires c = omega (arith, c.point_room.ensures, min-le_right (c.args.room / 3) most_points)

pub returns-in_err-measure_strokes : goal.returns-in_err-measure_strokes
unfolding verdict_of unless
returns-in_err-measure_strokes c =
    let t = room_left c.point_room.result c.args.start_room in
    let e = sym c.in_err-measure_strokes.was ∙ c.measure_strokes.ensures ∙ ap (λ (x : View). spent_all t (walks_of x c.args.points.now c.args.starts.now)) c.view_of-view.ensures in
    let p = err_from_is_err_and c.from_residual.result c.from_residual.ensures.1 in
    rw (p.1, p.2) (simp (sym c.shaped.ensures ∙ c.if-not-shaped.false, sym c.counted.ensures ∙ c.if-not-counted.false, sym c.coordinates_good.ensures ∙ c.if-not-coordinates_good.false, sym c.numbers_good.ensures ∙ c.if-not-numbers_good.false) (ap verdict_by e ∙ rw c.point_room.ensures))

pub returns : goal.returns
unfolding verdict_of unless
returns c =
    let t = room_left c.point_room.result c.args.start_room in
    let e = sym c.in_ok-measure_strokes.was ∙ c.measure_strokes.ensures ∙ ap (λ (x : View). spent_all t (walks_of x c.args.points.now c.args.starts.now)) c.view_of-view.ensures in
    simp (sym c.shaped.ensures ∙ c.if-not-shaped.false, sym c.counted.ensures ∙ c.if-not-counted.false, sym c.coordinates_good.ensures ∙ c.if-not-coordinates_good.false, sym c.numbers_good.ensures ∙ c.if-not-numbers_good.false) (ap verdict_by e ∙ rw c.point_room.ensures)
