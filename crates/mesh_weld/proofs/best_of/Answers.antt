-- `best_of` meets its contract: where no vertex ahead is near, the least stays.
use mathlib.Core.Path.{sym, ◌∙◌}
use Rattle.mesh_weld.specs.InnerTable.{all_ways}
use Rattle.mesh_weld.proofs.Walks.{all_far}
use Rattle.mesh_weld.proofs.best_of.Goals as goal

pub returns-then-bits-eq0 : goal.returns-then-bits-eq0
returns-then-bits-eq0 c = all_far c.args.vertices.now c.args.p c.args.c c.args.best c.requires.c_value.1 (all_ways c.args.w) (sym c.all_close-bits.ensures ∙ c.if-bits-eq0.true)
