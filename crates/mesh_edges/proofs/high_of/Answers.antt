-- `high_of` meets its contract.
use native.Mathlib.Omega.{arith}
use mathlib.Core.Path.{◌≡◌, ap, ◌∙◌}
use Prim.Native.Nat.{ℕ}
use lib.ListN.{get_or}
use Rattle.mesh_edges.specs.Edges.{next_corner}
use Rattle.mesh_edges.proofs.high_of.Goals as goal

pub returns-then-a-b : goal.returns-then-a-b
returns-then-a-b c =
    let p = c.word_in-a.ensures.0 in
    let q : c.word_in-b.result ≡ get_or c.args.indices.now (next_corner c.args.k) 0 = c.word_in-b.ensures.0 ∙ ap (λ (z : ℕ). get_or c.args.indices.now z 0) c.next_corner.ensures in
    omega (arith, p, q, c.if-a-b.true)

pub returns : goal.returns
returns c =
    let p = c.word_in-a.ensures.0 in
    let q : c.word_in-b.result ≡ get_or c.args.indices.now (next_corner c.args.k) 0 = c.word_in-b.ensures.0 ∙ ap (λ (z : ℕ). get_or c.args.indices.now z 0) c.next_corner.ensures in
    omega (arith, p, q, c.if-a-b.false)
