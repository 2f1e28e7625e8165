-- What simplify's contract permits is one outcome: the answer and every element of both lists.
use mathlib.Core.Path.{◌≡◌}
use mathlib.Core.List.{List, [], ◌∷◌}
use Prim.Native.Nat.{ℕ}
use lib.ListN.{get_or}
use lib.Ieee.{Float}
use Rattle.std.specs.Prelude.{Result}
use Rattle.refusal.specs.One.{One}
use Rattle.refusal.specs.declared.Refusal.{Refusal}
use Rattle.refusal.proofs.Unique.{one-said}
use Rattle.path.specs.Call.{left}
use Rattle.path.proofs.Calls.{one_left}
use Rattle.path_simplify.specs.declared.Simplified.{Simplified}
use Rattle.path_simplify.specs.Call.{said, simplify_left}

simplified-told : (r t : Result Simplified Refusal) → said r ≡ said t → r ≡ t
simplified-told = one-said (λ p. p.points ∷ p.starts ∷ p.distances ∷ []) (λ a b e. λ i. record { points = get_or (e i) 0 0; starts = get_or (e i) 1 0; distances = get_or (e i) 2 0 })

pub one-simplify : (ps : List Float) (ss : List ℕ) (threshold : Float) (op : List Float) (os : List ℕ)
    → One (Result Simplified Refusal × List Float × List ℕ) (λ o. left (said o.0) o.1 o.2 ≡ simplify_left ps ss threshold op os)
one-simplify ps ss threshold op os = one_left said simplified-told (simplify_left ps ss threshold op os)
