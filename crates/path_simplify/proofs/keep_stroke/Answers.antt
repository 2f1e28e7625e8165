-- `keep_stroke` meets its contract.
use Prim.Native.Nat.{◌-◌}
use native.Mathlib.Omega.{arith}
use Rattle.path.specs.Strokes.{point_at}
use Rattle.path_simplify.proofs.Totals.{stroke_most, thinned-length, thinned-measured, thinned-noted}
use Rattle.path_simplify.proofs.Noted.{cleared-thin, noted-thin}
use Rattle.path_simplify.proofs.keep_stroke.Goals as goal

pub keep_front-requires : goal.keep_front-requires
keep_front-requires c =
    let at = point_at c.args.points.now in
    let w = stroke_most c.args.threshold at c.args.a c.args.e c.requires.1 in
    let n = thinned-length c.args.threshold at c.args.a c.args.e c.requires.0 in
    (omega (arith, c.requires.0, c.requires.2), omega (arith, c.clear.ensures.1, n, w.few, c.requires.1), omega (arith, c.clear.ensures.0, w.quick, c.requires.1, thinned-measured c.args.threshold at c.args.a c.args.e c.requires.0))

pub note-requires : goal.note-requires
note-requires c =
    let at = point_at c.args.points.now in
    let w = stroke_most c.args.threshold at c.args.a c.args.e c.requires.1 in
    let n = thinned-length c.args.threshold at c.args.a c.args.e c.requires.0 in
    omega (arith, c.clear.ensures.1, n, w.few, c.requires.1, c.keep_front.ensures.1)

pub returns : goal.returns
returns c =
    let at = point_at c.args.points.now in
    let w = stroke_most c.args.threshold at c.args.a c.args.e c.requires.1 in
    let n = thinned-length c.args.threshold at c.args.a c.args.e c.requires.0 in
    let k = cleared-thin at c.clear.new.self c.clear.ensures.0 c.clear.ensures.1 in
    let o = noted-thin at c.keep_front.new.kept c.note.new.self (c.args.e - 1) (omega (arith, c.clear.ensures.1, n, w.few, c.requires.1, c.keep_front.ensures.1)) c.note.ensures in
    (thinned-noted c.args.threshold at c.args.a c.args.e c.requires.0 _ _ _ k c.keep_front.ensures.0 o, omega (arith, c.note.ensures.1, c.keep_front.ensures.1, c.clear.ensures.1, n))
