-- `chop_adaptive` meets its contract.
use Rattle.path_adaptive.specs.declared.View.{View}
use Rattle.path_adaptive.proofs.Calls.{accepted-at}
use Rattle.refusal.proofs.Outcomes.{accept, refuse}
use Rattle.path.proofs.Calls.{wrote_all}
use Rattle.path.proofs.Pushes.{front}
use Rattle.path.specs.InnerPushes.{put_points, out, push_all}
use Rattle.path_adaptive.specs.Walk.{view_of, walks_of, adapted, halvings_of}
use Rattle.path_adaptive.specs.Call.{adaptive_left}
use Rattle.path.specs.Call.{laid}
use mathlib.Core.List.{[], ◌∷◌}
use Prim.Native.Nat.{ℕ}
use Rattle.std.proofs.lemmas.Result.{err_from_is_err_and}
use native.Mathlib.Omega.{arith}
use mathlib.Core.Path.{refl, sym, ap, ◌∙◌}
use Rattle.path_adaptive.proofs.chop_adaptive.Goals as goal

pub write_strokes-requires : goal.write_strokes-requires
write_strokes-requires c =
    let h = accepted-at c.args.points.now c.args.starts.now c.args.matrix c.args.width c.args.height c.args.step c.args.tolerance _ _ c.view_of-view.ensures (sym c.adaptive_verdict.ensures ∙ c.in_ok-adaptive_verdict.was) in
    (h.calm, h.few, omega (arith, h.strokes), h.halvings)

pub returns : goal.returns
unfolding adaptive_left
returns c =
    let z = sym c.adaptive_verdict.ensures ∙ c.in_ok-adaptive_verdict.was in
    let e = c.write_strokes.ensures.0 ∙ ap (λ (x : View). push_all put_points (out c.args.out_points.now c.args.out_starts.now front) (adapted (walks_of x c.args.points.now c.args.starts.now))) c.view_of-view.ensures in
    let n = c.write_strokes.ensures.1 ∙ ap (λ (x : View). halvings_of (walks_of x c.args.points.now c.args.starts.now)) c.view_of-view.ensures in
    let h = accepted-at c.args.points.now c.args.starts.now c.args.matrix c.args.width c.args.height c.args.step c.args.tolerance _ _ refl z in
    let ws = walks_of (view_of c.args.matrix c.args.width c.args.height c.args.step c.args.tolerance) c.args.points.now c.args.starts.now in
    accept _ _ _ z (wrote_all _ _ c.args.out_points.now c.args.out_starts.now _ e h.fit h.start_fit ∙ ap (λ (x : ℕ). laid (x ∷ []) (adapted ws) c.args.out_points.now c.args.out_starts.now) n)

pub returns-in_err-adaptive_verdict : goal.returns-in_err-adaptive_verdict
unfolding adaptive_left
returns-in_err-adaptive_verdict c =
    let p = err_from_is_err_and c.from_residual.result c.from_residual.ensures.1 in
    rw (p.1, p.2) (refuse _ _ _ _ (sym c.in_err-adaptive_verdict.was ∙ c.adaptive_verdict.ensures))
