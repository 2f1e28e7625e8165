-- `close` meets its contract: nothing is ahead, or a vertex that is near or is not.
use mathlib.Core.Path.{◌≡◌, sym, ◌∙◌}
use mathlib.Core.Bool.{true, false}
use Prim.Native.Nat.{◌-◌}
use native.Mathlib.Omega.{arith}
use Rattle.path.specs.Strokes.{point_at}
use Rattle.mesh_weld.specs.Weld.{near}
use Rattle.mesh_weld.proofs.Walks.{close_ended, close_met}
use Rattle.mesh_weld.proofs.close.Goals as goal

pub returns-then-w-eq0 : goal.returns-then-w-eq0
returns-then-w-eq0 c = (close_ended c.args.vertices.now c.args.p c.args.w c.if-w-eq0.true, omega arith)

pub returns-then-near : goal.returns-then-near
returns-then-near c =
    let e : near c.args.p (point_at c.args.vertices.now (c.args.w.next - 1)) ≡ true = rw c.vertex_in.ensures at (sym c.near.ensures ∙ c.if-near.true) in
    (close_met c.args.vertices.now c.args.p c.args.w c.if-w-eq0.false true e, omega arith)

pub returns : goal.returns
returns c =
    let e : near c.args.p (point_at c.args.vertices.now (c.args.w.next - 1)) ≡ false = rw c.vertex_in.ensures at (sym c.near.ensures ∙ c.if-near.false) in
    (close_met c.args.vertices.now c.args.p c.args.w c.if-w-eq0.false false e, omega arith)
