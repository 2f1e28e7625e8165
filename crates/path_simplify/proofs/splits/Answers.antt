-- `splits` meets its contract.
use mathlib.Core.Bool.{true, false}
use mathlib.Core.Path.{◌≡◌, sym, ◌∙◌}
use lib.Ieee.{lt}
use Rattle.vector.proofs.RootLaws.{rooted}
use Rattle.path_simplify.specs.Simplify.{splits_at}
use Rattle.path_simplify.proofs.splits.Goals as goal

pub returns-then-root_exceeds : goal.returns-then-root_exceeds
unfolding splits_at
returns-then-root_exceeds c =
    let above : lt c.args.threshold (rooted c.args.f.square) ≡ true = sym c.root_exceeds.ensures ∙ c.if-root_exceeds.true in
    rw above

pub returns : goal.returns
unfolding splits_at
returns c =
    let not_above : lt c.args.threshold (rooted c.args.f.square) ≡ false = sym c.root_exceeds.ensures ∙ c.if-root_exceeds.false in
    rw not_above
