use mathlib.Core.Path.{refl, ap}
use native.Mathlib.Omega.{arith}
use lib.ListN.{length-set}
use Rattle.path_splice_links.specs.Links.{link_word}
use Rattle.path_splice_links.proofs.Threads.{runs_none, end_lt, place-lt, within_more, runs-finish, runs-turn}
use Rattle.path_splice_links.proofs.run.Goals as goal

pub loop-g-init : goal.loop-g-init
loop-g-init c =
    let I = runs_none c.args.s.now c.args.n c.args.at c.requires.walkable c.args.start.0 c.requires.start_bound.0 c.requires.start_bound.1 in
    (c.requires.start_bound.0, place-lt c.args.s.now c.args.n c.args.at c.requires.walkable c.args.start.0 c.requires.start_bound.0 c.requires.start_bound.1 c.args.s.now c.args.start.0 c.args.at 1 I, omega arith, refl, I)

pub go_on-requires-clause-within : goal.go_on-requires-clause-within
go_on-requires-clause-within c = within_more c.args.s.now c.args.n c.args.at c.requires.walkable c.args.start.0 c.requires.start_bound.0 c.requires.start_bound.1 c.loop-g.s c.loop-g.e.0 c.loop-g.k c.loop-g.f c.loop-g.invariant.4 _ c.path_id-i.ensures

pub loop-g-preserved : goal.loop-g-preserved
loop-g-preserved c =
    let J = runs-turn c.args.s.now c.args.n c.args.at c.requires.walkable c.args.start.0 c.requires.start_bound.0 c.requires.start_bound.1 c.loop-g.s c.loop-g.e.0 c.loop-g.k c.loop-g.f c.loop-g.invariant.4 _ c.path_id-i.ensures _ c.go_on.ensures _ (ap link_word c.in-Some.is) in
    (end_lt c.args.s.now c.args.n c.args.at c.requires.walkable c.args.start.0 c.requires.start_bound.0 c.requires.start_bound.1 _ _ _ _ J, place-lt c.args.s.now c.args.n c.args.at c.requires.walkable c.args.start.0 c.requires.start_bound.0 c.requires.start_bound.1 _ _ _ _ J, omega arith, rw (length-set, length-set) c.loop-g.invariant.3, J)

pub returns-in-None : goal.returns-in-None
returns-in-None c = runs-finish c.args.s.now c.args.n c.args.at c.requires.walkable c.args.start.0 c.requires.start_bound.0 c.requires.start_bound.1 c.loop-g.s c.loop-g.e.0 c.loop-g.k c.loop-g.f c.loop-g.invariant.4 _ c.path_id-i.ensures _ c.go_on.ensures (ap link_word c.in-None.is)
