-- `larger` meets its contract.
use native.Mathlib.Omega.{arith}
use Rattle.mesh.proofs.Tests.{first-told, second_told}
use Rattle.mesh.proofs.larger.Goals as goal

pub returns-then-a-b : goal.returns-then-a-b
returns-then-a-b c = λ n. second_told c.args.a c.args.b n (omega (arith, c.if-a-b.true))

pub returns-else-a-b : goal.returns-else-a-b
returns-else-a-b c = λ n. first-told c.args.a c.args.b n c.if-a-b.false
