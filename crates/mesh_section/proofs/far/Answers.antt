-- `far` meets its contract.
use mathlib.Core.Path.{sym, subst}
use lib.Dec.{T}
use lib.Ieee.{binary64, fits}
use Rattle.vector.proofs.Far.{far_off}
use Rattle.mesh_section.proofs.far.Goals as goal

pub returns : goal.returns
returns c = λ t. far_off c.args.n c.args.d (let held : T (fits binary64 c.args.n) = subst T (sym c.well_formed.0.1) tt in held) (subst T (sym t) tt)
