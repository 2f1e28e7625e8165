-- `numbers_good` meets its contract: each test is that of the definition.
use Rattle.stl_write.proofs.Calls.{past_bound, within-bound}
use Rattle.stl_write.proofs.numbers_good.Goals as goal

pub returns-then-not-coordinates_good : goal.returns-then-not-coordinates_good
returns-then-not-coordinates_good c = past_bound _ _ _ c.coordinates_good.ensures c.if-not-coordinates_good.true

pub returns : goal.returns
returns c = within-bound _ _ _ c.coordinates_good.ensures c.if-not-coordinates_good.false _ c.corners_exact.ensures
