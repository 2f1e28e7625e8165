-- `meant` meets its contract.
use Rattle.mesh_mode.proofs.Modes.{said}
use Rattle.mesh_mode.proofs.meant.Goals as goal

pub returns-then-number-eq0 : goal.returns-then-number-eq0
returns-then-number-eq0 c = rw c.if-number-eq0.true

pub returns : goal.returns
returns c = said c.args.number c.if-number-eq0.false
