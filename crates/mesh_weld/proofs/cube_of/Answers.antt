-- `cube_of` meets its contract: three calls.
use Rattle.mesh_weld.specs.InnerTable.{cube_of}
use Rattle.mesh_weld.proofs.cube_of.Goals as goal

pub returns : goal.returns
unfolding cube_of
returns c = rw (c.key_of.ensures.0, c.key_of-2.ensures.0, c.key_of-3.ensures.0)
