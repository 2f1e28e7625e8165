-- `by_mix` meets its contract.
use Rattle.path_classes.proofs.Orders.{mix_ordered}
use Rattle.path_classes.proofs.by_mix.Goals as goal

pub returns : goal.returns
returns c = (
  mix_ordered c.args.points.now c.args.s.now c.count_up.new.s c.fill_keys.new.s c.sort_words.new.s c.sort_words-2.new.s c.sort_words-3.new.s c.args.m c.requires.1 c.requires.0
      c.count_up.ensures.0 c.count_up.ensures.1 c.fill_keys.ensures c.sort_words.ensures c.sort_words-2.ensures c.sort_words-3.ensures,
  c.fill_keys.ensures.held,
)
