use Rattle.path.specs.Strokes.{point_at}
use Rattle.mesh_weld.proofs.Loop.{built_all}
use mathlib.Core.Path.{refl, ◌∙◌}
use Prim.Native.Nat.{◌*◌}
use native.Mathlib.Omega.{arith}
use Rattle.mesh_weld.specs.InnerTable.{Placed}
use Rattle.mesh_weld.proofs.Loop.{built_none, built-more}
use Rattle.mesh_weld.proofs.weld_all.Goals as goal

pub loop-i-init : goal.loop-i-init
loop-i-init g c = (refl, refl, refl, built_none (g.C.Corners.coordinates c.args.corners) c.args.vertices.now c.args.indices.now (c.args.n * 2) c.args.scratch.now c.requires.scratch_value)

pub loop-i-preserved : goal.loop-i-preserved
loop-i-preserved g c =
    let p : Placed c.loop-i.vertices c.loop-i.indices (c.args.n * 2) c.loop-i.k c.loop-i.i (point_at (g.C.Corners.coordinates c.args.corners) c.loop-i.i) c.get_or_insert-k.new.scratch c.get_or_insert-k.new.vertices c.get_or_insert-k.new.indices c.get_or_insert-k.result =
    rw c.corner.ensures at c.get_or_insert-k.ensures in (
      c.get_or_insert-k.auto.scratch ∙ c.loop-i.invariant.0,
      c.get_or_insert-k.auto.vertices ∙ c.loop-i.invariant.1,
      c.get_or_insert-k.auto.indices ∙ c.loop-i.invariant.2,
      built-more (g.C.Corners.coordinates c.args.corners) c.args.vertices.now c.args.indices.now (c.args.n * 2) c.loop-i.i c.loop-i.k c.loop-i.scratch c.loop-i.vertices c.loop-i.indices c.loop-i.invariant.3
          (omega (arith, c.requires.n_value, c.loop-i.invariant.0)) c.get_or_insert-k.new.scratch c.get_or_insert-k.new.vertices c.get_or_insert-k.new.indices c.get_or_insert-k.result p,
    )

pub returns : goal.returns
returns g c = built_all (g.C.Corners.coordinates c.args.corners) c.args.vertices.now c.args.indices.now _ c.loop-i.i c.args.n c.loop-i.scratch c.loop-i.vertices c.loop-i.indices c.loop-i.k c.loop-i.invariant.3 (omega arith) c.requires.n_value.0 (omega (arith, c.requires.n_value))
