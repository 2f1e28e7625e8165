-- `write_adapted` meets its contract: the first point, and then the spans from it on.
use Rattle.path.specs.Strokes.{point_at, gather}
use Rattle.path_adaptive.specs.Walk.{shown_of, one_point, walk_from, stroke_walked}
use Rattle.path_adaptive.proofs.Walks.{Both, join-both, stroke_some}
use Rattle.path_adaptive.proofs.Inks.{right_fits, both_inks}
use Prim.Native.Nat.{◌+◌, ◌-◌}
use native.Mathlib.Omega.{arith}
use mathlib.Core.Path.{refl}
use Rattle.path_adaptive.proofs.write.write_adapted.Goals as goal

pub collector-next-requires : goal.collector-next-requires
collector-next-requires c =
    omega (
      arith,
      c.requires.1.few,
      ((let whole : let at = point_at c.args.points.now in let v = c.point_at-v.result in
          Both 0 (one_point v) (walk_from c.args.view.now (shown_of c.args.view.now v) (gather at (c.args.a + 1) (c.args.e - (c.args.a + 1)))) (stroke_walked c.args.view.now (gather at c.args.a (c.args.e - c.args.a))) = join-both _ _ _ (stroke_some c.args.view.now (point_at c.args.points.now) c.args.a c.args.e _ _ c.requires.0 c.point_at-v.ensures refl) c.requires.1.calm in whole)).length_is,
    )

pub write_spans-requires : goal.write_spans-requires
write_spans-requires c =
    rw c.show.ensures (right_fits ((let whole : let at = point_at c.args.points.now in let v = c.point_at-v.result in
    Both 0 (one_point v) (walk_from c.args.view.now (shown_of c.args.view.now v) (gather at (c.args.a + 1) (c.args.e - (c.args.a + 1)))) (stroke_walked c.args.view.now (gather at c.args.a (c.args.e - c.args.a))) = join-both _ _ _ (stroke_some c.args.view.now (point_at c.args.points.now) c.args.a c.args.e _ _ c.requires.0 c.point_at-v.ensures refl) c.requires.1.calm in whole)) refl (omega arith) c.requires.1 c.collector-next.ensures)

pub returns : goal.returns
returns c =
    both_inks ((let whole : let at = point_at c.args.points.now in let v = c.point_at-v.result in
    Both 0 (one_point v) (walk_from c.args.view.now (shown_of c.args.view.now v) (gather at (c.args.a + 1) (c.args.e - (c.args.a + 1)))) (stroke_walked c.args.view.now (gather at c.args.a (c.args.e - c.args.a))) = join-both _ _ _ (stroke_some c.args.view.now (point_at c.args.points.now) c.args.a c.args.e _ _ c.requires.0 c.point_at-v.ensures refl) c.requires.1.calm in whole)) refl (omega arith) c.collector-next.ensures (rw c.show.ensures at c.write_spans.ensures)
