-- `is_stl` meets its contract.
use Rattle.stl.specs.Files.{is_stl}
use Rattle.stl.proofs.is_stl.Goals as goal

pub returns : goal.returns
unfolding is_stl
returns c = rw c.faces_in.ensures
