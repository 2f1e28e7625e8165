-- What a call of chop answers and leaves in the two lists lent to it.
use Rattle.std.specs.Prelude.{Ok}
use Rattle.std.specs.Prelude.{Bool, ◌&&◌, List, [], ℕ, ◌*◌, ◌/◌, length, leb, Float}
use Rattle.refusal.specs.Limits.{most_points}
use Rattle.refusal.specs.Refusals.{unless}
use Rattle.refusal.specs.Outcome.{Outcome, outcome}
use Rattle.refusal.specs.declared.Refusal.TheVariants.{Shape, Count, Number, Room}
use Rattle.refusal.specs.Refusals.{Verdict}
use Rattle.vector.specs.declared.Vector.{Vector}
use Rattle.path.specs.Laid.{joined, non_empty}
use Rattle.path.specs.Tests.{shaped_of, counted_of, coordinates_good, step_good}
use Rattle.path.specs.Call.{Lent, lent, laid}
use Rattle.path_chop.specs.Chop.{chopped_of}

-- not too many points in all, three numbers of room a point, and room for every start
unfoldable pub room_for : List (List Vector) → ℕ → ℕ → Bool
room_for ss room start_room = leb (length (joined ss)) most_points && leb (length (joined ss) * 3) room && leb (length (non_empty ss)) start_room

unfoldable pub verdict_of : List Float → List ℕ → Float → ℕ → ℕ → Verdict
verdict_of ps ss step room start_room =
    unless (shaped_of ps ss) Shape
    (unless (counted_of (length ps / 3) (length ss)) Count
    (unless (coordinates_good ps) Number
    (unless (step_good step) Number
    (unless (room_for (chopped_of step ps ss) room start_room) Room
    (Ok tt)))))

unfoldable pub chop_left : List Float → List ℕ → Float → List Float → List ℕ → Outcome Lent
chop_left ps ss step op os = outcome (verdict_of ps ss step (length op) (length os)) (lent op os) (laid [] (chopped_of step ps ss) op os)
