-- `get_or_insert` meets its contract: a corner that is found takes its vertex's number, and one that is not becomes a vertex and hangs in the table.
use mathlib.Core.Path.{sym, ap, ◌∙◌}
use native.Mathlib.Omega.{arith}
use Rattle.mesh_weld.specs.InnerTable.{coarse_of}
use Rattle.mesh_weld.proofs.Finds.{find-below}
use Rattle.mesh_weld.proofs.Places.{new}
use Rattle.mesh_weld.proofs.get_or_insert.Goals as goal

pub overflow_cast-indices : goal.overflow_cast-indices
overflow_cast-indices c = record { fits = omega (arith, c.requires.count_in_bounds, find-below c.args.vertices.now c.args.g.count c.args.p c.in-Some.v (sym c.find.ensures ∙ c.in-Some.is)) }

pub returns-in-None : goal.returns-in-None
returns-in-None c =
    new c.args.scratch.now c.args.vertices.now c.args.indices.now c.args.g.buckets c.args.g.count c.args.i c.args.p c.requires.ready c.find.result c.in-None.is c.find.ensures
    c.coarse_of.result (c.coarse_of.ensures ∙ ap coarse_of c.cube_of-c.ensures) c.requires.count_in_bounds.0
    c.insert.new.scratch c.insert.ensures c.put_point.new.out c.put_point.ensures
