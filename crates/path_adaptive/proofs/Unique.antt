-- What chop_adaptive's contract permits is one outcome: the answer and every element of both lists.
use mathlib.Core.Path.{◌≡◌}
use mathlib.Core.List.{List, [], ◌∷◌}
use Prim.Native.Nat.{ℕ}
use lib.ListN.{get_or}
use lib.Ieee.{Float}
use Rattle.std.specs.Prelude.{Result}
use Rattle.refusal.specs.One.{One}
use Rattle.refusal.specs.declared.Refusal.{Refusal}
use Rattle.refusal.proofs.Unique.{one-said}
use Rattle.vector.specs.declared.matrix.Matrix.{Matrix}
use Rattle.path.specs.Call.{left}
use Rattle.path.proofs.Calls.{one_left}
use Rattle.path_adaptive.specs.declared.Adapted.{Adapted}
use Rattle.path_adaptive.specs.Call.{said, adaptive_left}

adapted-told : (r t : Result Adapted Refusal) → said r ≡ said t → r ≡ t
adapted-told = one-said (λ p. p.points ∷ p.starts ∷ p.halvings ∷ []) (λ a b e. λ i. record { points = get_or (e i) 0 0; starts = get_or (e i) 1 0; halvings = get_or (e i) 2 0 })

pub one-chop_adaptive : (ps : List Float) (ss : List ℕ) (m : Matrix) (width height step tolerance : Float) (op : List Float) (os : List ℕ)
    → One (Result Adapted Refusal × List Float × List ℕ) (λ o. left (said o.0) o.1 o.2 ≡ adaptive_left ps ss m width height step tolerance op os)
one-chop_adaptive ps ss m width height step tolerance op os = one_left said adapted-told (adaptive_left ps ss m width height step tolerance op os)
