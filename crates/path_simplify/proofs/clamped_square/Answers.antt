-- `clamped_square` meets its contract: a law for each branch.
use Rattle.vector.proofs.Segments.{no_segment, before-first, after_last, between}
use Rattle.vector.specs.Vectors.{sub_of, dot_of, distance_squared_of}
use Rattle.path_simplify.specs.InnerSquares.{segment_square_of}
use mathlib.Core.Path.{◌≡◌, ◌∙◌}
use Rattle.path_simplify.proofs.clamped_square.Goals as goal

pub returns-then-l2 : goal.returns-then-l2
unfolding segment_square_of
returns-then-l2 c = c.distance_squared.ensures ∙ no_segment distance_squared_of c.args.p c.args.v c.args.w _ c.distance_squared-l2.ensures c.if-l2.true

pub returns-then-t : goal.returns-then-t
unfolding segment_square_of
returns-then-t c =
    let d = (let dotted : c.dot.result ≡ dot_of (sub_of c.args.p c.args.v) (sub_of c.args.w c.args.v) = rw (c.dot.ensures, c.sub-2.ensures, c.sub.ensures) in dotted) in
    c.distance_squared-then-t.ensures ∙ before-first distance_squared_of c.args.p c.args.v c.args.w _ c.distance_squared-l2.ensures _ d c.if-l2.false c.if-t.true

pub returns-then-t-2 : goal.returns-then-t-2
unfolding segment_square_of
returns-then-t-2 c =
    let d = (let dotted : c.dot.result ≡ dot_of (sub_of c.args.p c.args.v) (sub_of c.args.w c.args.v) = rw (c.dot.ensures, c.sub-2.ensures, c.sub.ensures) in dotted) in
    c.distance_squared-then-t-2.ensures ∙ after_last distance_squared_of c.args.p c.args.v c.args.w _ c.distance_squared-l2.ensures _ d c.if-l2.false c.if-t.false c.if-t-2.true

pub returns : goal.returns
unfolding segment_square_of
returns c =
    let d = (let dotted : c.dot.result ≡ dot_of (sub_of c.args.p c.args.v) (sub_of c.args.w c.args.v) = rw (c.dot.ensures, c.sub-2.ensures, c.sub.ensures) in dotted) in
    rw (c.distance_squared-2.ensures, c.add.ensures, c.mul_scalar.ensures, c.sub-3.ensures)
    (between distance_squared_of c.args.p c.args.v c.args.w _ c.distance_squared-l2.ensures _ d c.if-l2.false c.if-t.false c.if-t-2.false)
