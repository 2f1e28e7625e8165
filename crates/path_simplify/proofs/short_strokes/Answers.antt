use borrow.Author.Rules.{rules}
use Rattle.path_simplify.proofs.Totals.{short_more, short_none}
use mathlib.Core.Path.{sym, ◌∙◌}
use Rattle.path_simplify.proofs.short_strokes.Goals as goal

pub returns-then-not-short_stroke : goal.returns-then-not-short_stroke
returns-then-not-short_stroke c =
    let m = short_more c.args.n c.args.starts.now c.loop-j.j _ (search rules) c.end_of-e.ensures in
    sym (m ∙ rw (sym c.short_stroke.ensures ∙ c.if-not-short_stroke.true)) ∙ c.loop-j.invariant

pub loop-j-preserved : goal.loop-j-preserved
loop-j-preserved c =
    let m = short_more c.args.n c.args.starts.now c.loop-j.j _ (search rules) c.end_of-e.ensures in
    (sym (m ∙ rw (sym c.short_stroke.ensures ∙ c.if-not-short_stroke.false)) ∙ c.loop-j.invariant)

pub returns : goal.returns
returns c = sym (short_none c.args.n c.args.starts.now c.loop-j.j (search rules)) ∙ c.loop-j.invariant
