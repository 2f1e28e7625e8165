-- `settle` meets its contract.
use mathlib.Core.Path.{◌≡◌, sym, ◌∙◌}
use mathlib.Core.Bool.{true, false}
use lib.Ieee.{lt}
use Rattle.vector.proofs.RootLaws.{rooted}
use Rattle.path_simplify.specs.InnerSquares.{settled_of}
use Rattle.path_simplify.proofs.settle.Goals as goal

pub returns-then-root_above : goal.returns-then-root_above
unfolding settled_of
returns-then-root_above c =
    let r = c.args.r in
    let second : lt (rooted r.second.square) (rooted r.first.square) ≡ true = sym c.root_above.ensures ∙ c.if-root_above.true in
    rw second

pub returns-then-root_above-2 : goal.returns-then-root_above-2
unfolding settled_of
returns-then-root_above-2 c =
    let r = c.args.r in
    let second : lt (rooted r.second.square) (rooted r.first.square) ≡ false = sym c.root_above.ensures ∙ c.if-root_above.false in
    let third : lt (rooted r.third.square) (rooted r.first.square) ≡ true = sym c.root_above-2.ensures ∙ c.if-root_above-2.true in
    rw (second, third)

pub returns : goal.returns
unfolding settled_of
returns c =
    let r = c.args.r in
    let second : lt (rooted r.second.square) (rooted r.first.square) ≡ false = sym c.root_above.ensures ∙ c.if-root_above.false in
    let third : lt (rooted r.third.square) (rooted r.first.square) ≡ false = sym c.root_above-2.ensures ∙ c.if-root_above-2.false in
    rw (second, third)
