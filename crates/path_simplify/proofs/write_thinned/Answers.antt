-- `write_thinned` meets its contract.
use Rattle.path.specs.Strokes.{point_at}
use Rattle.path_simplify.proofs.Noted.{laid-ink, laid-measured}
use Rattle.path_simplify.proofs.write_thinned.Goals as goal

pub returns : goal.returns
returns c =
    let at = point_at c.args.points.now in
    (laid-ink at _ _ c.keep_stroke.ensures.0 c.keep_stroke.ensures.1 c.args.out.now _ c.args.at c.lay.ensures, c.keep_stroke.ensures.1, laid-measured at _ _ c.keep_stroke.ensures.0)
