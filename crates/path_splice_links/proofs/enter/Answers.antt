-- `enter` meets its contract.
use mathlib.Core.Path.{sym, ◌∙◌}
use borrow.Author.Tests.{not-true, not-false}
use Rattle.path_splice_links.proofs.Threads.{enter_ring, enter_first, enter_last, enter_none}
use Rattle.path_splice_links.proofs.enter.Goals as goal

pub returns-then-rings : goal.returns-then-rings
returns-then-rings c = enter_ring _ _ _ c.if-rings.true _ c.new-last.ensures

pub returns-then-not-is_connected : goal.returns-then-not-is_connected
returns-then-not-is_connected c = enter_first _ _ _ c.if-rings.false _ c.new-first.ensures (not-false _ (sym c.is_connected.ensures ∙ c.if-not-is_connected.true))

pub returns-then-not-is_connected-2 : goal.returns-then-not-is_connected-2
returns-then-not-is_connected-2 c = enter_last _ _ _ c.if-rings.false _ _ c.new-first.ensures (not-true _ (sym c.is_connected.ensures ∙ c.if-not-is_connected.false)) c.new-last.ensures (not-false _ (sym c.is_connected-2.ensures ∙ c.if-not-is_connected-2.true))

pub returns : goal.returns
returns c = enter_none _ _ _ c.if-rings.false _ _ c.new-first.ensures (not-true _ (sym c.is_connected.ensures ∙ c.if-not-is_connected.false)) c.new-last.ensures (not-true _ (sym c.is_connected-2.ensures ∙ c.if-not-is_connected-2.false))
