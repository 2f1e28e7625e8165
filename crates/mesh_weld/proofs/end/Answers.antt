use native.Mathlib.Omega.{arith}
use Rattle.mesh_weld.proofs.Walks.{number, further, within, seek_turn, seek_end}
use Rattle.mesh_weld.proofs.end.Goals as goal

pub link-at-requires : goal.link-at-requires
link-at-requires c =
    let n = number c.args.scratch.now c.args.g.buckets c.args.g.count c.loop-next.at c.loop-next.next c.requires.older c.loop-next.invariant.slot c.loop-next-test.true in
    omega arith

pub bounds-scratch-at-in-loop-next : goal.bounds-scratch-at-in-loop-next
bounds-scratch-at-in-loop-next c =
    let w = within c.args.scratch.now c.args.g.buckets c.args.g.count c.loop-next.at c.loop-next.next c.requires.older c.loop-next.invariant.slot c.loop-next-test.true c.loop-next.q in
    omega (arith, c.link-at.ensures)

pub loop-next-smaller : goal.loop-next-smaller
loop-next-smaller c =
    let f = further c.args.scratch.now c.args.g.buckets c.args.g.count c.loop-next.at c.loop-next.next c.requires.older c.loop-next.invariant.slot c.loop-next-test.true c.loop-next.q in
    omega (arith, c.link-at.ensures, c.loop-next.invariant.inside)

pub loop-next-preserved : goal.loop-next-preserved
loop-next-preserved c =
    seek_turn c.args.scratch.now c.args.g.buckets c.args.g.count c.args.home c.loop-next.at c.loop-next.next c.loop-next.q c.loop-next.invariant c.requires.older c.loop-next-test.true
    c.link-at.result c.link-at.ensures c.turned-q.result c.turned-q.ensures

pub returns : goal.returns
returns c = seek_end c.args.scratch.now c.args.g.buckets c.args.g.count c.args.home c.loop-next.at c.loop-next.next c.loop-next.q c.loop-next.invariant c.loop-next-test.false
