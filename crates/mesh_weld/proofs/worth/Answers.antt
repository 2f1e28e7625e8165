-- `worth` meets its contract: what is not close is worth nothing, what is close is scored.
use mathlib.Core.Path.{◌≡◌, sym, ap, ◌∙◌}
use Prim.Native.Nat.{ℕ, ◌-◌}
use native.Mathlib.Omega.{arith}
use Rattle.vector.specs.declared.Vector.{Vector}
use Rattle.mesh_weld.specs.InnerTable.{score_of, score_at, lesser_of}
use Rattle.mesh_weld.proofs.Walks.{worth_met, close_some, far_one, lesser-most}
use Rattle.mesh_weld.proofs.worth.Goals as goal

pub returns-then-is_close-eq0 : goal.returns-then-is_close-eq0
returns-then-is_close-eq0 c = (sym (far_one c.args.vertices.now c.args.p c.args.c c.args.best c.requires.is_close_value.1 c.args.w (sym c.requires.is_close_value.0 ∙ c.if-is_close-eq0.true)), c.requires.is_close_value.1)

pub overflow_sub-v : goal.overflow_sub-v
overflow_sub-v c = omega (arith, (close_some c.args.vertices.now c.args.p c.args.w (λ e. c.if-is_close-eq0.false (c.requires.is_close_value.0 ∙ e))).0)

pub score-requires : goal.score-requires
score-requires c = record { c_value = c.requires.c_value.0; i_bound = (omega (arith, c.requires.c_value.1), rw c.point_at.ensures (close_some c.args.vertices.now c.args.p c.args.w (λ e. c.if-is_close-eq0.false (c.requires.is_close_value.0 ∙ e))).1) }

pub returns : goal.returns
unfolding score_at
returns c =
    let e : c.score.result ≡ score_at c.args.vertices.now c.args.p c.args.c (c.args.w.next - 1) =
    c.score.ensures ∙ ap (λ (v : Vector). score_of c.args.p c.args.c v (c.args.w.next - 1)) c.point_at.ensures in
    let n = (close_some c.args.vertices.now c.args.p c.args.w (λ z. c.if-is_close-eq0.false (c.requires.is_close_value.0 ∙ z))).0 in (
      c.lesser.ensures ∙ ap (λ (x : ℕ). lesser_of x c.args.best) e ∙ worth_met (score_at c.args.vertices.now c.args.p c.args.c) c.args.best c.args.w (λ z. omega arith),
      omega (arith, lesser-most c.score.result c.args.best, c.lesser.ensures, c.requires.is_close_value.1),
    )
