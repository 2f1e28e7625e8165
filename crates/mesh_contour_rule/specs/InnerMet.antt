-- The first and the last place met going round a face that gives a segment, as the code looks for them.
use Rattle.std.specs.Prelude.{cond, eqb}
use Rattle.vector.specs.declared.Vector.{Vector}
use Rattle.mesh_contour_rule.specs.declared.Corner.{Corner}
use Rattle.mesh_contour_rule.specs.Contour.{on, parts, crossing}

unfoldable pub first_met : Corner → Corner → Corner → Vector
first_met a b c =
    cond (eqb (on a.side) 1) a.at
    (cond (parts a.side b.side) (crossing a b)
    (cond (eqb (on b.side) 1) b.at (crossing b c)))

unfoldable pub last_met : Corner → Corner → Corner → Vector
last_met a b c =
    cond (parts c.side a.side) (crossing c a)
    (cond (eqb (on c.side) 1) c.at
    (cond (parts b.side c.side) (crossing b c) b.at))
