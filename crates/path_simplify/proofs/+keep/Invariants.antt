-- `keep` meets its contract: the length falls.
use Rattle.std.proofs.Common.{◌-◌}
use Rattle.path_simplify.proofs.+keep.Given as goal

abbrev pub decreases-keep : goal.decreases-keep
decreases-keep l = l.hi - l.lo
