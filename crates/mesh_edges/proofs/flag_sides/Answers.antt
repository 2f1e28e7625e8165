-- `flag_sides` meets its contract.
use native.Mathlib.Omega.{arith}
use Prim.Native.Nat.{◌*◌}
use Rattle.order.proofs.Parts.{cleared}
use Rattle.mesh_edges.proofs.Flipping.{flags_short, flags_between}
use Rattle.mesh_edges.proofs.flag_sides.Goals as goal

pub returns-then-flips-lt2 : goal.returns-then-flips-lt2
returns-then-flips-lt2 c = flags_short c.args.s.now c.args.n c.requires.n_in_bounds.0 c.args.flips.now _ c.if-flips-lt2.true

pub returns : goal.returns
returns c =
    let n = c.args.n in
    flags_between c.args.s.now n c.requires.n_in_bounds.0 c.args.flips.now c.requires.below.1 _ c.write_mates.new.s c.walk_flips.new.s _ c.write_mates.ensures c.walk_flips.ensures
    (cleared c.walk_flips.new.s (3 * n) n (4 * n) (omega arith) (omega (arith, c.walk_flips.auto.s, c.write_mates.auto.s, c.requires.n_in_bounds)) c.clear.new.s c.clear.ensures)
