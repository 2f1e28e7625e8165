-- `write_cut` meets its contract.
use Rattle.mesh_section.proofs.Faces.{written, unwritten}
use Rattle.mesh_section.proofs.write_cut.Goals as goal

pub returns-in-Some-clause-result_after : goal.returns-in-Some-clause-result_after
returns-in-Some-clause-result_after c = written c.args.out_points.now _ _ c.args.out_starts.now _ c.args.p c.args.c _ _ c.in-Some.is c.put.ensures c.put_point.ensures c.put_point-in-Some.ensures

pub returns-in-None-clause-result_after : goal.returns-in-None-clause-result_after
returns-in-None-clause-result_after c = unwritten c.args.out_points.now c.args.out_starts.now c.args.p c.args.c c.in-None.is
