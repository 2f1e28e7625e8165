use native.Mathlib.Omega.{arith}
use mathlib.Core.Path.{ap, ◌∙◌}
use mathlib.Core.List.{List}
use Prim.Native.Nat.{ℕ, ◌+◌, ◌*◌}
use lib.ListN.{set}
use Rattle.mesh_edges.specs.Edges.{low_of, high_of}
use Rattle.mesh_edges.proofs.Filling.{fill_none, fill_more}
use Rattle.mesh_edges.proofs.fill_sides.Goals as goal

pub loop-k-init : goal.loop-k-init
loop-k-init c = fill_none c.args.s.now c.args.indices.now c.args.n

pub loop-k-preserved : goal.loop-k-preserved
loop-k-preserved c =
    let s0 = c.args.s.now in
    let is = c.args.indices.now in
    let n = c.args.n in
    let k = c.loop-k.k in
    ap (λ (x : ℕ). set (set (set c.loop-k.s k x) (n + k) c.high_of.result) (2 * n + k) k) c.low_of.ensures ∙ ap (λ (x : ℕ). set (set (set c.loop-k.s k (low_of is k)) (n + k) x) (2 * n + k) k) c.high_of.ensures
    ∙ ap (λ (t : List ℕ). set (set (set t k (low_of is k)) (n + k) (high_of is k)) (2 * n + k) k) c.loop-k.invariant ∙ fill_more s0 is n k (omega arith)
