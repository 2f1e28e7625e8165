-- `collector` meets its contract.
use Rattle.path_adaptive.proofs.Meets.{takes_one, takes_none}
use Rattle.path_adaptive.proofs.measure.collector.Goals as goal

pub returns-then-left-eq0 : goal.returns-then-left-eq0
returns-then-left-eq0 c = takes_none _ c.if-left-eq0.true

pub returns : goal.returns
returns c = takes_one _ c.requires c.if-left-eq0.false
