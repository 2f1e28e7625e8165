-- `score` meets its contract: a near vertex is equal, or its cell tells.
use mathlib.Core.Path.{sym, ap, ◌∙◌}
use Prim.Native.Nat.{ℕ, ◌+◌, ◌*◌}
use Rattle.vector.specs.Vectors.{equal_of}
use Rattle.mesh_weld.proofs.Cells.{counted-at}
use Rattle.mesh_weld.proofs.Ranks.{score_near}
use Rattle.mesh_weld.proofs.Equals.{rank_of_equal}
use Rattle.mesh_weld.proofs.score.Goals as goal

pub returns-then-eq : goal.returns-then-eq
unfolding equal_of
returns-then-eq c =
    ap (λ (x : ℕ). x * 1048576 + c.args.i) (sym (rank_of_equal c.args.p c.args.c c.args.v c.requires.c_value (sym c.eq.ensures ∙ c.if-eq.true)))
    ∙ score_near c.args.p c.args.c c.args.v c.args.i c.requires.i_bound.1

pub rank-requires : goal.rank-requires
rank-requires c = counted-at c.args.p c.requires.c_value

pub returns : goal.returns
returns c = ap (λ (x : ℕ). x * 1048576 + c.args.i) c.rank.ensures.0 ∙ score_near c.args.p c.args.c c.args.v c.args.i c.requires.i_bound.1
