-- `put_pair` meets its contract.
use native.Mathlib.Omega.{arith}
use mathlib.Core.Path.{refl}
use lib.ListN.{length-set}
use Rattle.mesh_strokes.specs.InnerWalk.{with_pair}
use Rattle.mesh_strokes.proofs.put_pair.Goals as goal

pub bounds-s-n-4 : goal.bounds-s-n-4
bounds-s-n-4 c = rw length-set (omega (arith, c.requires.room.long, c.requires.p_lt_n))

pub returns : goal.returns
unfolding with_pair
returns c = refl
