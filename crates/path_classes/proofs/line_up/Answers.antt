-- `line_up` meets its contract.
use Rattle.path_classes.proofs.Asides.{aside_then}
use Rattle.path_classes.proofs.Lines.{mix_together, words_together}
use Rattle.path_classes.proofs.line_up.Goals as goal

pub returns-then-mixed_up : goal.returns-then-mixed_up
returns-then-mixed_up c = (aside_then c.by_mix.ensures.0.aside c.by_words.ensures.aside, words_together c.args.points.now _ _ c.args.m c.by_words.ensures c.by_mix.ensures.1)

pub returns-else-mixed_up : goal.returns-else-mixed_up
returns-else-mixed_up c = (c.by_mix.ensures.0.aside, mix_together c.args.points.now _ _ c.args.m c.by_mix.ensures.0 (c.mixed_up.ensures c.if-mixed_up.false))
