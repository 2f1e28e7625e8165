-- `visit` meets its contract.
use mathlib.Core.Path.{sym, ap, ◌∙◌}
use native.Mathlib.Omega.{arith}
use Rattle.path_splice_links.specs.Links.{link_word}
use Rattle.path_splice_links.proofs.Threads.{drew-none, skipped, entered, start_is, start-todo, drew-run}
use Rattle.path_splice_links.proofs.visit.Goals as goal

pub returns-then-s-n-eq0 : goal.returns-then-s-n-eq0
returns-then-s-n-eq0 c = drew-none c.args.s.now c.args.n c.args.at c.requires.walkable c.args.rings c.args.i (skipped c.args.s.now c.args.n c.args.at c.requires.walkable c.args.rings c.args.i c.if-s-n-eq0.true c.requires.i_lt_n)

pub run-requires-clause-start_bound : goal.run-requires-clause-start_bound
run-requires-clause-start_bound c =
    let e = sym (ap link_word c.in-Some.is) ∙ c.enter.ensures in
    (omega (arith, start_is c.args.s.now c.args.n c.args.at c.requires.walkable c.args.rings c.args.i _ e, c.requires.i_lt_n), start-todo c.args.s.now c.args.n c.args.at c.requires.walkable c.args.rings c.args.i _ c.if-s-n-eq0.false c.requires.i_lt_n e)

pub returns-in-Some : goal.returns-in-Some
returns-in-Some c = drew-run c.args.s.now c.args.n c.args.at c.requires.walkable c.args.rings c.args.i c.run.new.s _ c.run.result c.if-s-n-eq0.false c.requires.i_lt_n (sym (ap link_word c.in-Some.is) ∙ c.enter.ensures) c.run.ensures

pub returns-in-None : goal.returns-in-None
returns-in-None c = drew-none c.args.s.now c.args.n c.args.at c.requires.walkable c.args.rings c.args.i (entered c.args.s.now c.args.n c.args.at c.requires.walkable c.args.rings c.args.i _ c.if-s-n-eq0.false c.requires.i_lt_n (sym (ap link_word c.in-None.is) ∙ c.enter.ensures))
