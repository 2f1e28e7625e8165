use borrow.Author.Rules.{rules}
use mathlib.Core.Path.{◌∙◌}
use borrow.Author.Tests.{lt-ltb}
use Rattle.mesh.proofs.Tests.{compared, no_more}
use Rattle.mesh.proofs.largest.Goals as goal

pub loop-index-init : goal.loop-index-init
loop-index-init c = λ n h. rw (lt-ltb 0 n h)

pub loop-index-preserved : goal.loop-index-preserved
loop-index-preserved c =
    let is = c.args.indices.now in
    λ n h. c.loop-index.invariant n h ∙ compared n is c.loop-index.index-index c.loop-index.m (search rules) _ (c.larger-m.ensures n)

pub returns : goal.returns
returns c = λ n h. c.loop-index.invariant n h ∙ no_more n c.args.indices.now c.loop-index.index-index c.loop-index.m (search rules)
