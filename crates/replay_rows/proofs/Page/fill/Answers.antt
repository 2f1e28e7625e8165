use Rattle.std.proofs.Common.{ℕ, refl, ap, ◌∙◌}
use Rattle.replay_rows.specs.Words.{past_of}
use Rattle.replay_rows.specs.Pages.{word_of}
use Rattle.replay_rows.specs.Lists.{filled}
use Rattle.replay_rows.proofs.Laws.{fill_turn}
use Rattle.replay_rows.proofs.Page.fill.Goals as goal

pub loop-i-init : goal.loop-i-init
unfolding filled
loop-i-init g c = refl

pub loop-i-preserved : goal.loop-i-preserved
loop-i-preserved g c =
    let f = λ (j : ℕ). g.T.Element.of (word_of c.args.self.now (past_of c.args.at j)) in
    fill_turn f c.args.list.now c.loop-i.list c.loop-i.i _ c.loop-i.invariant (c.element.ensures ∙ ap (λ (p : ℕ). g.T.Element.of (word_of c.args.self.now p)) c.past.ensures)
