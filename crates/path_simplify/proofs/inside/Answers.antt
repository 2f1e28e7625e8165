-- `inside` meets its contract: a quotient of numbers above 0, the first not above the second, lies between 0 and 1 (`within`).
use mathlib.Core.Path.{sym, subst}
use lib.Dec.{T}
use Rattle.vector.specs.Lengths.{zero64}
use Rattle.vector.proofs.Order.{lt-through, lt-one_way}
use Rattle.vector.proofs.Patterns.{beyond-no_nan}
use Rattle.vector.proofs.Shares.{within, above-not_level}
use Rattle.path_simplify.proofs.inside.Goals as goal

pub returns-then-d-l2 : goal.returns-then-d-l2
returns-then-d-l2 c =
    λ e.
    let some = subst T (sym e) tt in
    let less = lt-one_way c.args.d c.args.l2 (subst T (sym c.if-d-l2.true) tt) in
    let long = lt-through zero64 c.args.d c.args.l2 some less (beyond-no_nan c.args.d c.args.l2 c.if-d-l2.true) in
    let w = within c.args.d c.args.l2 some long less in
    (above-not_level c.args.l2 long, w.0, w.1)
