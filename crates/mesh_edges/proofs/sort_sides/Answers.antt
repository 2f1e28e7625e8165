-- `sort_sides` meets its contract.
use native.Mathlib.Omega.{arith}
use Rattle.mesh_edges.proofs.Filling.{sorted-twice}
use Rattle.mesh_edges.proofs.sort_sides.Goals as goal

pub returns : goal.returns
returns c = sorted-twice c.args.s.now c.args.n c.requires.0 c.requires.1 (λ x. omega (arith, c.slice_known-1.given x)) _ _ c.sort_words.ensures c.sort_words-2.ensures
