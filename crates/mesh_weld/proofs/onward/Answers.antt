-- `onward` meets its contract: a way that has ended stays, and another goes on to the link that its next bit tells.
use Rattle.mesh_weld.proofs.Walks.{on-ended, on-met}
use Rattle.mesh_weld.proofs.onward.Goals as goal

pub returns-then-w-eq0 : goal.returns-then-w-eq0
returns-then-w-eq0 c = on-ended c.args.scratch.now c.args.g.buckets c.args.w c.if-w-eq0.true

pub returns : goal.returns
returns c = on-met c.args.scratch.now c.args.g.buckets c.args.w c.if-w-eq0.false c.link-at.result c.turned.result c.link-at.ensures c.turned.ensures
