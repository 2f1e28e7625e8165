-- `edges` meets its contract.
use native.Mathlib.Omega.{arith}
use Rattle.mesh_edges.proofs.Edging.{edges_many, edges_short, plain-below, plain-mates, edges_all}
use Rattle.mesh_edges.proofs.edges.Goals as goal

pub returns-then-n : goal.returns-then-n
returns-then-n c = edges_many c.args.s.now c.args.indices.now c.args.flips.now (omega (arith, c.if-n.true))

pub returns-then-s-n : goal.returns-then-s-n
returns-then-s-n c = edges_short c.args.s.now c.args.indices.now c.args.flips.now (omega (arith, c.if-s-n.true))

pub flag_sides-requires : goal.flag_sides-requires
flag_sides-requires c =
    let h = c.if-s-n.false in
    record { n_in_bounds = omega (arith, c.sides.auto.s, h, c.if-n.false); below = (plain-below c.args.s.now c.args.indices.now h c.sides.new.s c.sides.ensures, plain-mates c.args.s.now c.args.indices.now h c.sides.new.s c.sides.ensures) }

pub returns : goal.returns
returns c = edges_all c.args.s.now c.args.indices.now c.if-s-n.false c.sides.new.s c.sides.ensures c.if-n.false c.args.flips.now _ c.flag_sides.ensures
