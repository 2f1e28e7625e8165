-- `fits` meets its contract: the starts are counted, the points bounded (`by_bound`) or counted (`by_count`).
use mathlib.Core.Path.{sym, ◌∙◌}
use Rattle.path_chop.specs.Chop.{chopped_of}
use Rattle.path_chop.proofs.Bounds.{starts_short, by_bound, by_count}
use Rattle.path_chop.proofs.fits.Goals as goal

pub returns-then-start_room-kept_strokes : goal.returns-then-start_room-kept_strokes
returns-then-start_room-kept_strokes c = starts_short (chopped_of c.args.step c.args.points.now c.args.starts.now) c.args.room c.args.start_room _ (c.kept_strokes.ensures c.args.step) c.if-start_room-kept_strokes.true

pub returns-then-enough : goal.returns-then-enough
returns-then-enough c =
    by_bound (chopped_of c.args.step c.args.points.now c.args.starts.now) c.args.room c.args.start_room _ (c.kept_strokes.ensures c.args.step) c.if-start_room-kept_strokes.false
    _ c.bound_strokes.ensures.0 (sym c.enough.ensures ∙ c.if-enough.true)

pub returns : goal.returns
returns c =
    c.enough-2.ensures
    ∙ by_count (chopped_of c.args.step c.args.points.now c.args.starts.now) c.args.room c.args.start_room _ (c.kept_strokes.ensures c.args.step) c.if-start_room-kept_strokes.false
    _ c.count_strokes.ensures
