-- `measure_span` meets its contract.
use Rattle.path_adaptive.proofs.Meets.{meets_stop}
use Rattle.path_adaptive.proofs.measure.measure_span.Goals as goal

pub returns-then-left-gt-MOST_POINTS : goal.returns-then-left-gt-MOST_POINTS
returns-then-left-gt-MOST_POINTS c = meets_stop _ _ c.if-left-gt-MOST_POINTS.true
