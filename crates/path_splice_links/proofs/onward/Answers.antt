-- `onward` meets its contract.
use mathlib.Core.Path.{sym, ap, ◌∙◌}
use Rattle.path_splice_links.specs.Links.{link_word}
use Rattle.path_splice_links.proofs.Stepping.{on_none, on-seen, on_go}
use Rattle.path_splice_links.proofs.onward.Goals as goal

pub returns-in_err-f : goal.returns-in_err-f
returns-in_err-f c =
    rw c.from_residual.ensures (on_none c.args.links.now c.args.todo.now c.opposite-o.result.0 c.args.e.0 c.opposite-o.ensures (sym c.link_in.ensures ∙ ap link_word c.in_err-f.was))

pub returns-then-todo-i-eq0 : goal.returns-then-todo-i-eq0
returns-then-todo-i-eq0 c =
    on-seen c.args.links.now c.args.todo.now c.opposite-o.result.0 c.args.e.0 c.opposite-o.ensures _ (sym c.link_in.ensures ∙ ap link_word c.in_ok-f.was) (rw c.path_id-i.ensures at c.if-todo-i-eq0.true)

pub returns : goal.returns
returns c =
    on_go c.args.links.now c.args.todo.now c.opposite-o.result.0 c.args.e.0 c.opposite-o.ensures _ (sym c.link_in.ensures ∙ ap link_word c.in_ok-f.was) (rw c.path_id-i.ensures at c.if-todo-i-eq0.false)
