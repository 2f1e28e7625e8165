-- What a call of simplify answers and leaves in the two lists lent to it.
use Rattle.std.specs.Prelude.{Result, Ok, Bool, true, ◌&&◌, List, [], ◌∷◌, ℕ, ◌-◌, ◌/◌, length, get_or, leb, Float}
use Rattle.std.specs.Float.Ieee.{le}
use Rattle.refusal.specs.Limits.{most_to_simplify}
use Rattle.refusal.specs.Refusals.{unless}
use Rattle.refusal.specs.Said.{Said, said_by}
use Rattle.refusal.specs.Outcome.{Outcome, outcome}
use Rattle.refusal.specs.declared.Refusal.{Refusal}
use Rattle.refusal.specs.declared.Refusal.TheVariants.{Shape, Count, Number, Room}
use Rattle.refusal.specs.Refusals.{Verdict}
use Rattle.vector.specs.Lengths.{zero64}
use Rattle.path.specs.Tests.{shaped_of, counted_of, coordinates_good}
use Rattle.path.specs.Call.{Lent, lent, laid}
use Rattle.path_simplify.specs.declared.Simplified.{Simplified}
use Rattle.path_simplify.specs.Simplify.{simplified, distances, simplified_of}

-- the answer's number and values
abbrev pub said : Result Simplified Refusal → Said ℕ
said r = said_by (λ p. p.points ∷ p.starts ∷ p.distances ∷ []) r

-- no stroke of n points is too long to simplify
unfoldable pub short_of : ℕ → List ℕ → Bool
short_of n [] = true
short_of n (s ∷ ss) = leb (get_or ss 0 n - s) most_to_simplify && short_of n ss

-- not NaN, not below 0
abbrev pub threshold_good : Float → Bool
threshold_good t = le zero64 t

-- room for as many points and starts as there are
unfoldable pub room_for : ℕ → ℕ → ℕ → ℕ → Bool
room_for numbers starts room start_room = leb numbers room && leb starts start_room

unfoldable pub verdict_of : List Float → List ℕ → Float → ℕ → ℕ → Verdict
verdict_of ps ss t room start_room =
    unless (shaped_of ps ss) Shape
    (unless (counted_of (length ps / 3) (length ss)) Count
    (unless (short_of (length ps / 3) ss) Count
    (unless (coordinates_good ps) Number
    (unless (threshold_good t) Number
    (unless (room_for (length ps) (length ss) room start_room) Room
    (Ok tt))))))

unfoldable pub simplify_left : List Float → List ℕ → Float → List Float → List ℕ → Outcome Lent
simplify_left ps ss t op os =
    outcome (verdict_of ps ss t (length op) (length os)) (lent op os) (laid (distances (simplified_of t ps ss) ∷ []) (simplified (simplified_of t ps ss)) op os)
