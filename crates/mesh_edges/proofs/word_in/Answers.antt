-- `word_in` meets its contract.
use native.Mathlib.Omega.{arith}
use mathlib.Core.Path.{refl, sym}
use lib.ListN.{get_or-eq_default}
use Rattle.mesh_edges.proofs.word_in.Goals as goal

pub overflow_cast-result : goal.overflow_cast-result
overflow_cast-result c = omega (arith, c.shared_slice_known-1.given c.args.i)

pub returns-then-i-s : goal.returns-then-i-s
returns-then-i-s c = (refl, omega (arith, c.shared_slice_known-1.given c.args.i))

pub returns : goal.returns
returns c = (sym (get_or-eq_default c.args.s.now 0 (omega arith)), omega arith)
