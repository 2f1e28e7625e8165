-- `mix` meets its contract.
use borrow.Author.Rules.{rules}
use Rattle.path_classes.proofs.Same.{mix_is}
use Rattle.path_classes.proofs.mix.Goals as goal

pub returns : goal.returns
returns c = (
  mix_is _ _ _ _ _ _ _ _ _ c.pattern_of.ensures.0 c.pattern_of-2.ensures.0 c.pattern_of-3.ensures.0 c.spread-x.ensures c.spread-y.ensures c.spread-z.ensures c.wrapping_add_u64.ensures.value c.wrapping_add_u64-2.ensures.value,
  search rules,
  record { first = c.pattern_of.ensures.1; second = c.pattern_of-2.ensures.1; third = c.pattern_of-3.ensures.1 },
)
