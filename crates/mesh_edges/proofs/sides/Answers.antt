-- `sides` meets its contract.
use native.Mathlib.Omega.{arith}
use Prim.Native.Nat.{◌*◌}
use Rattle.order.proofs.Parts.{cleared}
use Rattle.mesh_edges.proofs.Filling.{plain_of}
use Rattle.mesh_edges.proofs.sides.Goals as goal

pub returns : goal.returns
returns c =
    let n = c.args.n in
    plain_of c.args.s.now c.args.indices.now n c.requires.2 c.requires.0 c.fill_sides.new.s c.sort_sides.new.s _ c.fill_sides.ensures c.sort_sides.ensures
    (cleared c.sort_sides.new.s (4 * n) n (5 * n) (omega arith) (omega (arith, c.sort_sides.auto.s, c.fill_sides.auto.s, c.requires.0)) c.clear.new.s c.clear.ensures)
