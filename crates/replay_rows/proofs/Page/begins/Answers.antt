use Rattle.std.proofs.Common.{arith}
use Rattle.replay_rows.specs.Lists.{expected}
use Rattle.replay_rows.proofs.Laws.{held-no, held-yes, held-end}
use Rattle.replay_rows.proofs.Page.begins.Goals as goal

pub returns-then-not-is_word : goal.returns-then-not-is_word
returns-then-not-is_word g c =
    held-no g.T.Element.is (expected c.args.self.now c.args.at c.args.n c.args.rest) c.args.list.now c.loop-i.i _ c.index-list-i.result _ _ (omega arith) c.index-list-i.is
    c.expect.ensures c.is_word.ensures c.loop-i.invariant c.if-not-is_word.true

pub loop-i-preserved : goal.loop-i-preserved
loop-i-preserved g c =
    held-yes g.T.Element.is (expected c.args.self.now c.args.at c.args.n c.args.rest) c.args.list.now c.loop-i.i _ c.index-list-i.result _ _ (omega arith) c.index-list-i.is
    c.expect.ensures c.is_word.ensures c.loop-i.invariant c.if-not-is_word.false

pub returns : goal.returns
returns g c = held-end g.T.Element.is (expected c.args.self.now c.args.at c.args.n c.args.rest) c.args.list.now c.loop-i.i _ (omega arith) c.loop-i.invariant
