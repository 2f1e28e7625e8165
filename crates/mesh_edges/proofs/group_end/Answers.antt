use native.Mathlib.Omega.{arith}
use mathlib.Core.Path.{◌≡◌, sym, ◌∙◌}
use Prim.Native.Nat.{◌+◌, ◌*◌}
use lib.ListN.{get_or}
use Rattle.mesh_edges.proofs.Ends.{from_more, from-stop, from_all, end_from}
use Rattle.mesh_edges.proofs.group_end.Goals as goal

pub returns-then-v-w : goal.returns-then-v-w
returns-then-v-w c =
    let x = get_or c.args.s.now (2 * c.args.n + c.args.p) 0 in
    from-stop c.args.s.now c.args.n c.requires.0 x c.loop-q.q (omega arith) (λ e. c.if-v-w.true (c.loop-q.invariant.1 ∙ e ∙ sym c.pair_at-w.ensures))
    ∙ c.loop-q.invariant.2 c.requires.0 ∙ sym (end_from c.args.s.now c.args.n c.requires.0 c.args.p c.requires.1)

pub loop-q-preserved : goal.loop-q-preserved
loop-q-preserved c =
    let x = get_or c.args.s.now (2 * c.args.n + c.args.p) 0 in
    (omega (arith, c.loop-q.invariant.0), c.loop-q.invariant.1, λ H. from_more c.args.s.now c.args.n H x c.loop-q.q (omega arith) (sym c.loop-q.invariant.1 ∙ c.if-v-w.false ∙ c.pair_at-w.ensures) ∙ c.loop-q.invariant.2 H)

pub returns : goal.returns
returns c =
    let x = get_or c.args.s.now (2 * c.args.n + c.args.p) 0 in
    let e : c.args.n ≡ c.loop-q.q = omega arith in
    e ∙ from_all c.args.s.now c.args.n c.requires.0 x c.loop-q.q (omega arith) ∙ c.loop-q.invariant.2 c.requires.0 ∙ sym (end_from c.args.s.now c.args.n c.requires.0 c.args.p c.requires.1)
