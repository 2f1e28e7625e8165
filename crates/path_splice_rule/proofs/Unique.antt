-- What the contracts of `Endpoint::new` and `opposite` permit is one end: its number tells it.
use mathlib.Core.Path.{◌≡◌}
use Prim.Native.Nat.{ℕ}
use Rattle.refusal.specs.One.{One}
use Rattle.refusal.proofs.Unique.{one-read}
use Rattle.path_splice_rule.specs.declared.Endpoint.{Endpoint}

pub one_end : (n : ℕ) → One Endpoint (λ e. e.0 ≡ n)
one_end = one-read (λ e. e.0) (λ d e h i. record { 0 = h i })
