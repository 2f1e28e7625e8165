-- `all_below` meets its contract: the largest decides, but of no vertices.
use mathlib.Core.Path.{sym, ap, ◌∙◌}
use native.Mathlib.Omega.{arith}
use Rattle.mesh.specs.Meshes.{all_below}
use Rattle.mesh.proofs.Tests.{none_below}
use Rattle.mesh.proofs.all_below.Goals as goal

pub returns-then-n-eq0 : goal.returns-then-n-eq0
returns-then-n-eq0 c =
    let is = c.args.indices.now in
    none_below is ∙ ap (λ n. all_below n is) (sym c.if-n-eq0.true)

pub returns : goal.returns
returns c = sym (c.largest.ensures c.args.n (omega (arith, c.if-n-eq0.false)))
