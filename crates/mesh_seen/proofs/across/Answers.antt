-- `across` meets its contract.

use Rattle.mesh_seen.proofs.across.Goals as goal

pub returns : goal.returns
returns c = rw (c.cross.ensures, c.sub-2.ensures, c.sub.ensures)
