-- What the contract of `thread` permits is one outcome: how many chain words there are, and the words.
use mathlib.Core.Path.{◌≡◌}
use mathlib.Core.List.{List}
use Prim.Native.Nat.{ℕ}
use Rattle.refusal.specs.One.{One}
use Rattle.refusal.proofs.Unique.{one-read}
use Rattle.path_splice_links.specs.Walk.{Threaded, threaded}

pub one-thread : (x : Threaded) → One (ℕ × List ℕ) (λ o. threaded o.0 o.1 ≡ x)
one-thread = one-read (λ o. threaded o.0 o.1) (λ r t e i. ((e i).count, (e i).words))
