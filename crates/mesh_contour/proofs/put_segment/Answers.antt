-- `put_segment` meets its contract.
use Rattle.mesh_contour.proofs.Segments.{stored, unstored}
use Rattle.mesh_contour.proofs.put_segment.Goals as goal

pub returns-in-Some : goal.returns-in-Some
returns-in-Some c = stored c.args.out.now _ _ c.args.k c.args.c _ _ c.in-Some.is c.put_point.ensures c.put_point-in-Some.ensures

pub returns-in-None : goal.returns-in-None
returns-in-None c = unstored c.args.out.now c.args.k c.args.c c.in-None.is
