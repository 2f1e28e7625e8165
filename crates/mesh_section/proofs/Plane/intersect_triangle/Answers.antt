-- `intersect_triangle` meets its contract.
use Rattle.mesh_section.specs.Section.{triangle_cut}
use Rattle.mesh_section.proofs.Plane.intersect_triangle.Goals as goal

pub returns : goal.returns
unfolding triangle_cut
returns c = rw (c.first_two.ensures, c.intersect_segment-v1.ensures, c.intersect_segment-v2.ensures, c.intersect_segment-v3.ensures)
