-- `segment_square` meets its contract: between the ends no test is left after the division.
use mathlib.Core.Path.{◌≡◌}
use Rattle.vector.specs.Vectors.{sub_of, dot_of, distance_squared_of}
use Rattle.path_simplify.specs.InnerSquares.{segment_square_of}
use Rattle.vector.proofs.Segments.{between}
use Rattle.path_simplify.proofs.segment_square.Goals as goal

pub returns-then-inside : goal.returns-then-inside
unfolding segment_square_of
returns-then-inside c =
    let i = c.inside.ensures c.if-inside.true in
    let d : c.dot-d.result ≡ dot_of (sub_of c.args.p c.args.v) (sub_of c.args.w c.args.v) = rw (c.dot-d.ensures, c.sub-2.ensures, c.sub.ensures) in
    rw (c.distance_squared.ensures, c.add.ensures, c.mul_scalar.ensures, c.sub-then-inside.ensures)
    (between distance_squared_of c.args.p c.args.v c.args.w _ c.distance_squared-l2.ensures _ d i.0 i.1 i.2)
